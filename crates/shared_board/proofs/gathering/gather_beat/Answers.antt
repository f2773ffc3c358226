use Rattle.std.proofs.Common.{◌≡◌, ℕ, ◌+◌, ◌*◌, ◌<◌, ◌≤◌, ◌∙◌, Bool, not, length, ap, sym, subst}
use Rattle.std.proofs.Common.{⊎_elim, arith}
use Rattle.std.proofs.lemmas.Bool.{cases_lt}
use Rattle.std.proofs.lemmas.List.{length-set, get_or-set_other}
use Rattle.std.proofs.lemmas.Grind.{get_or-set_at}
use Rattle.std.proofs.lemmas.List.Elements.{All-set}
use Rattle.majority_votes.specs.Votes.{Votes}
use Rattle.shared_board.specs.Senders.{is_liar, correct_in, parts_of}
use Rattle.shared_board.proofs.Passing.{blocks_more, block_front}
use Rattle.shared_board.proofs.gathering.gather_beat.Goals as goal

-- the lead's block has no more correct nodes than those of all leaders
pub returns-in-Some-clause-steps : goal.returns-in-Some-clause-steps
returns-in-Some-clause-steps g c =
    let at = c.args.site.now in
    let s = at.senders.now in
    let q : ℕ → Bool = λ u. not (is_liar s u) in
    let below : c.in-Some.lead < at.leaders = rw c.in-Some.is at c.requires.lead in
    omega (
      arith,
      c.gather_most.ensures.steps,
      ap
          (λ a. length (correct_in s a at.size)) c.start.ensures,
      block_front q at.first
          c.in-Some.lead at.leaders at.size below,
    )

-- the next leader
pub loop-b-preserved : goal.loop-b-preserved
loop-b-preserved g c =
    let i = c.loop-b.invariant in
    let at = c.args.site.now in
    let s = at.senders.now in
    let n : ℕ = at.size in
    let b = c.loop-b.b in
    let parts = c.loop-b.parts in
    let new = c.gather_numbers.new.poll in
    let e = c.gather_numbers.ensures.poll in
    let same = ap (λ (v : Votes). v.capacity) e in
    let q : ℕ → Bool = λ u. not (is_liar s u) in
    let in_range : b < length parts =
    omega (arith, i.1.0, c.requires.room.0, c.loop-b-test.true, c.loop-b.auto.b-end) in
    let room : n ≤ c.index-parts-b.result.capacity =
    subst (λ (v : Votes). n ≤ v.capacity) (sym c.index-parts-b.is)
    (i.1.1 b c.index-parts-b.result in_range) in
    let took = ap (λ a. length (correct_in s a n)) c.start-in-loop-b.ensures in (
      λ j none lt. ⊎_elim
          (λ earlier. ap (λ (v : Votes). v.values)
          (get_or-set_other parts b j new none (λ (same : j ≡ b). omega arith))
          ∙ i.0 j none earlier)
          (λ le. let is : j ≡ b = omega arith in
          ap (λ (v : Votes). v.values) (get_or-set_at parts b j new none is in_range)
          ∙ (ap (λ (v : Votes). v.values) e
          ∙ (ap (λ a. parts_of s at.beat a n) c.start-in-loop-b.ensures
          ∙ ap (λ k. parts_of s at.beat (at.first + k * n) n) (sym is))))
          (cases_lt j b),
      (
        length-set parts b new ∙ i.1.0,
        All-set (λ (v : Votes). n ≤ v.capacity) parts b new (omega (arith, same, room)) i.1.1,
      ),
      omega (arith, c.gather_numbers.ensures.steps, i.2, took, blocks_more q at.first b n),
    )
