use Rattle.std.proofs.Common.{◌≡◌, ◌+◌, ℕ, Option, Some, length, ap, subst, arith}
use Rattle.std.proofs.lemmas.List.{length-map}
use Rattle.majority_votes.specs.Votes.{Votes}
use Rattle.majority_votes.specs.Outlooks.{IsOutlook}
use Rattle.majority_votes.specs.declared.tally.Outlook.TheVariants as outlook
use Rattle.shared_board.specs.Senders.{output_of, correct_in, liars_in, numbers_of}
use Rattle.shared_board.proofs.Common.{common_stays}
use Rattle.shared_board.proofs.Heard.{correct_count, number_known}
use Rattle.shared_board.proofs.stretches.NodeRange.gather_most.Goals as goal

-- there is room for the liars
pub majority_with-requires : goal.majority_with-requires
majority_with-requires g c =
    let block = c.args.self.now in
    let s = block.senders.now in
    let values = ap (λ (v : Votes). length v.values) c.gather_numbers.ensures.poll in
    let room = ap (λ (v : Votes). v.capacity) c.gather_numbers.ensures.poll in
    let f : ℕ → Option ℕ = λ u. Some (g.R.Reading.reads c.args.reading.now (output_of s u)) in
    omega (
      arith,
      values,
      room,
      c.liars-2.ensures,
      length-map
          (correct_in s block.first block.count) f,
      correct_count s block.first block.count
          block.within,
      c.requires,
    )

-- a majority that stays is the one heard
pub returns-2-clause-most : goal.returns-2-clause-most
returns-2-clause-most g c =
    let block = c.args.self.now in
    let s = block.senders.now in
    let reads = g.R.Reading.reads c.args.reading.now in
    let values = ap (λ (v : Votes). v.values) c.gather_numbers.ensures.poll in
    let stays : IsOutlook (liars_in s block.first block.count)
    (numbers_of s reads block.first block.count) c.majority_with.result =
    subst (λ more. IsOutlook more
    (numbers_of s reads block.first block.count) c.majority_with.result) c.liars-2.ensures
    (subst (λ vs. IsOutlook c.liars-2.result vs c.majority_with.result) values
    c.majority_with.ensures) in
    record {
      known = rw c.known_number.ensures
          (number_known s block.first block.count block.within reads c.majority_with.result stays);
      counted = λ _. values;
    }

-- the one number that all correct nodes show
pub returns-clause-most : goal.returns-clause-most
returns-clause-most g c =
    let block = c.args.self.now in
    let s = block.senders.now in
    let reads : ℕ → ℕ = g.R.Reading.reads c.args.reading.now in
    let f : ℕ → Option ℕ = λ u. Some (reads (output_of s u)) in
    let more : ℕ = liars_in s block.first block.count in
    let all : length (numbers_of s reads block.first block.count) + more ≡ block.count =
    omega (
      arith,
      length-map (correct_in s block.first block.count) f,
      correct_count s block.first block.count block.within,
    ) in
    let stays = common_stays s reads block.first block.count c.in-Some.output more all
    (omega (arith, c.if-liars-self.true, c.liars.ensures))
    (c.all_show.ensures.show.0 c.if-all_show.true) in
    record {
      known = rw c.of-2.ensures
          (number_known s block.first block.count block.within reads
          (outlook.Is (Some (reads c.in-Some.output))) stays);
      counted = λ none. absurd (cc);
    }
