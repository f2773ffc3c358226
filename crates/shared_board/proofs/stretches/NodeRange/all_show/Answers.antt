use Rattle.std.proofs.Common.{◌≡◌, ℕ, ◌-◌, ◌∙◌, Bool, not, length, ap, sym, ⊎_elim, arith}
use Rattle.std.proofs.lemmas.Bool.{cases_lt, true≢false}
use Rattle.shared_board.specs.Senders.{is_liar, output_of}
use Rattle.shared_board.proofs.Passing.{length_more, passing_most, passing_one, passing_none}
use Rattle.shared_board.proofs.stretches.NodeRange.all_show.Goals as goal
use Rattle.shared_board.proofs.stretches.NodeRange.all_show.Goals.{then-not-is_liar+else-output}
use Rattle.shared_board.proofs.stretches.NodeRange.all_show.Goals.{else-not-is_liar}

-- no more are compared than there are
pub overflow_add-compared : goal.overflow_add-compared
overflow_add-compared g c =
    let s = c.args.self.now in
    let i = c.loop-u.invariant in
    omega (
      arith,
      i.1,
      i.2,
      c.loop-u-test.true,
      c.end-u-end.ensures,
      s.within,
      passing_most (λ u. not (is_liar s.senders.now u)) s.first (c.loop-u.u - s.first),
    )

-- the next node, if it is correct
pub loop-u-preserved : goal.loop-u-preserved
loop-u-preserved g c =
    let i = c.loop-u.invariant in
    let s = c.args.self.now in
    let u = c.loop-u.u in
    let q : ℕ → Bool = λ u. not (is_liar s.senders.now u) in
    elim c.if-not-is_liar.branch [
      | then-not-is_liar+else-output w ↦
          let one = passing_one q u (ap not (sym c.is_liar.ensures ∙ w.if-not-is_liar.true)) in (
            λ v le lt ok. ⊎_elim (λ earlier. i.0 v le earlier ok)
                (λ late. let is : v ≡ u = omega arith in
                ap (output_of s.senders.now) is ∙ (sym w.output.ensures ∙ w.if-output.false))
                (cases_lt v u),
            omega (arith, w.compared-is, i.1, ap length one, length_more q s.first u i.2),
            omega (arith, i.2),
          )
      | else-not-is_liar w ↦
          let none = passing_none q u (ap not (sym c.is_liar.ensures ∙ w.if-not-is_liar.false)) in (
            λ v le lt ok. ⊎_elim (λ earlier. i.0 v le earlier ok)
                (λ late. let is : v ≡ u = omega arith in
                absurd (true≢false (sym (sym c.is_liar.ensures ∙ w.if-not-is_liar.false)
                ∙ (ap (is_liar s.senders.now) (sym is) ∙ ok))))
                (cases_lt v u),
            omega (arith, w.compared-is, i.1, ap length none, length_more q s.first u i.2),
            omega (arith, i.2),
          )
    ]
