use Rattle.std.proofs.Common.{length, drop, sym, ◌∙◌, inl, inr, arith}
use Rattle.std.proofs.lemmas.List.{length-drop}
use Rattle.std.proofs.lemmas.Bool.{cases_lt}
use Rattle.halving_texts.proofs.FirstDifference.{differs_last}
use Rattle.halving_texts.proofs.differences.differs_at.Goals as goal

pub returns-else-text-other : goal.returns-else-text-other
returns-else-text-other c =
    let i = c.loop-i.i in
    let text = c.args.text.now in
    let other = c.args.other.now in
    let left = length-drop i text in
    let right = length-drop i other in
    sym (sym c.loop-i.invariant.same
    ∙ differs_last c.loop-i.line (drop i text) (drop i other)
    (λ same. omega (arith, same, left, right))
    (elim (cases_lt (length text) (length other)) [
      | inl lt ↦ inl (omega (arith, left, lt))
      | inr le ↦ inr (omega (arith, right, le))
    ]))
