use Rattle.std.proofs.Common.{◌≡◌, ℕ, ◌∙◌, ap, sym, unwrap_or}
use Rattle.std.proofs.lemmas.Bool.{true≢false}
use Rattle.construction.specs.PhaseKing.{locked_at}
use Rattle.shared_board.proofs.LockedGroups.{none_correct}
use Rattle.shared_board.proofs.stretches.NodeRange.correct_value.Goals as goal

-- not all are locked where the first correct one is
pub returns-else-correct_locked-clause-none : goal.returns-else-correct_locked-clause-none
returns-else-correct_locked-clause-none c = λ _ value all.
    let at = c.args.self.now in
    let found : ℕ = c.in-Some.value in
    none_correct at.senders.now value at.count at.first all (λ e.
    let same : found ≡ value =
    ap (λ o. unwrap_or o 0) (sym c.in-Some.is ∙ (c.first_value.ensures ∙ e)) in
    true≢false (sym (c.correct_locked.ensures.1
    (λ u le lt ok. all u le lt ok ∙ ap locked_at (sym same))) ∙ c.if-correct_locked.false))

-- the first correct one is infinite
pub returns-in-None-clause-none : goal.returns-in-None-clause-none
returns-in-None-clause-none c = λ _ value all.
    let at = c.args.self.now in
    none_correct at.senders.now value at.count at.first all (λ e.
    let none = sym c.in-None.is ∙ (c.first_value.ensures ∙ e) in
    absurd (cc))
