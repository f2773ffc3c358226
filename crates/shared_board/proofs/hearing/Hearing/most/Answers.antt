use Rattle.std.proofs.Common.{ℕ, ◌++◌, ◌∙◌, Option, Some, List, map, length, unwrap_or, ap, sym}
use Rattle.std.proofs.Common.{arith}
use Rattle.std.proofs.lemmas.List.{length-map}
use Rattle.counting.specs.Values.{majority_of}
use Rattle.sync_types.specs.States.{State}
use Rattle.construction.specs.Shown.{shown}
use Rattle.shared_board.specs.Senders.{output_of, correct_in, numbers_of}
use Rattle.shared_board.proofs.Heard.{number_heard, lies_long, correct_count}
use Rattle.shared_board.proofs.hearing.Hearing.most.Goals as goal

-- there is room for the lies
pub most-requires : goal.most-requires
most-requires g c =
    let at = c.args.self.now in
    let s = at.senders.now in
    let values = c.requires.stands.counted c.in-None.is in
    let f : ℕ → Option ℕ = λ u. Some (g.R.Reading.reads c.args.reading.now (output_of s u)) in
    omega (
      arith,
      ap length values,
      ap length c.lies_in.ensures.lies,
      length-map (correct_in s c.args.first c.args.count) f,
      lies_long s at.lies.now at.told c.args.first c.args.count c.requires.within,
      correct_count s c.args.first c.args.count c.requires.within,
      c.requires.room,
    )

-- the numbers of the correct nodes and of the lies
pub returns-in-None-clause-most : goal.returns-in-None-clause-most
returns-in-None-clause-most g c =
    let at = c.args.self.now in
    let s = at.senders.now in
    let reads = g.R.Reading.reads c.args.reading.now in
    let values = c.requires.stands.counted c.in-None.is in
    let by : List (Option ℕ) → ℕ → List State
    → ℕ = λ vs h ts. unwrap_or (majority_of (vs ++ map (λ t. Some (reads (shown h t))) ts)) 0 in
    c.most.ensures.most
    ∙ (ap (λ vs. by vs c.lies_in.result.height c.lies_in.result.lies.now) values
    ∙ (ap (λ h. by (numbers_of s reads c.args.first c.args.count) h c.lies_in.result.lies.now)
    c.lies_in.ensures.height
    ∙ (ap (λ ts. by (numbers_of s reads c.args.first c.args.count) s.height ts)
    c.lies_in.ensures.lies
    ∙ sym (number_heard s at.lies.now at.told c.args.first c.args.count c.requires.within reads))))

-- there are as many lies as liars
pub returns-in-None-clause-steps : goal.returns-in-None-clause-steps
returns-in-None-clause-steps g c =
    let at = c.args.self.now in
    omega (
      arith,
      c.most.ensures.steps,
      ap length c.lies_in.ensures.lies,
      lies_long at.senders.now at.lies.now at.told c.args.first c.args.count c.requires.within,
    )
