use Rattle.std.proofs.Common.{◌∙◌, ℕ, Option, Some, ap, sym, arith}
use Rattle.shared_board.specs.Senders.{output_of}
use Rattle.shared_board.proofs.FirstCorrect.{first_found, none_found}
use Rattle.shared_board.proofs.stretches.NodeRange.first_output.Goals as goal

-- the first one that is correct
pub returns-then-not-is_liar : goal.returns-then-not-is_liar
returns-then-not-is_liar c =
    let at = c.args.self.now in
    let shown : ℕ → Option ℕ = λ u. Some (output_of at.senders.now u) in
    let i = c.loop-u.invariant in
    ap (λ output. Some output) c.output.ensures
    ∙ sym (first_found at.senders.now shown at.first at.count c.loop-u.u i.1
    (omega (arith, c.loop-u-test.true, c.end-u-end.ensures)) i.0
    (sym c.is_liar.ensures ∙ c.if-not-is_liar.true))

-- one more liar
pub loop-u-preserved : goal.loop-u-preserved
loop-u-preserved c =
    let at = c.args.self.now in
    let shown : ℕ → Option ℕ = λ u. Some (output_of at.senders.now u) in
    let i = c.loop-u.invariant in (
      none_found at.senders.now shown at.first c.loop-u.u i.1 i.0
          (sym c.is_liar.ensures ∙ c.if-not-is_liar.false),
      omega (arith, i.1),
    )
