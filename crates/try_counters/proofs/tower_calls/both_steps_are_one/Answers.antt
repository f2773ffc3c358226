use Rattle.std.proofs.Common.{◌≡◌, ℕ, zero, suc, ◌<◌, true, false, List, [], ◌∷◌, ◌++◌}
use Rattle.std.proofs.Common.{Option, Some, None, get_or, refl, sym, ap, ◌∙◌, subst, arith}
use Rattle.sync_types.specs.FaultSets.{FaultIds, is_in}
use Rattle.construction.specs.Plans.{Plan, plan_nodes}
use Rattle.try_counters.proofs.tower_calls.both_steps_are_one.Goals as goal

-- a row: what is said, a node, its new register, and the liars that it heeds
abbrev Row : Type 0
Row = ℕ × ℕ × Option ℕ × (ℕ × ℕ)

abbrev rows : List Row
rows = (0, 0, Some 1, (0, 1)) ∷ ((5, 0, None, (0, 1)) ∷ ((5, 3, Some 1, (0, 0)) ∷ []))

abbrev none : Row
none = (0, 0, None, (0, 0))

-- the nodes of the rows are 0 and 3
of_rows : (P : ℕ → Type 0) → P 0 → P 3 → (i : ℕ) → i < 3 → P (get_or rows i none).1
of_rows P first third zero lt = first
of_rows P first third (suc zero) lt = first
of_rows P first third (suc (suc zero)) lt = third
of_rows P first third (suc (suc (suc i))) lt = absurd (omega (arith, lt))

pub invariant_of-shown-clause-among : goal.invariant_of-shown-clause-among
invariant_of-shown-clause-among g c =
    let i : ℕ = c.loop-value.value-index in
    let node : ℕ = (get_or rows i none).1 in
    let small : node < 9 =
    of_rows (λ v. v < 9) (omega arith) (omega arith) i c.loop-value-test.true in
    subst (λ (p : Plan). node < plan_nodes p)
    (sym (c.in_ok-tower.ensures.plan ∙ c.in_ok-plan.ensures)) small

pub invariant_of-shown-clause-correct : goal.invariant_of-shown-clause-correct
invariant_of-shown-clause-correct g c =
    let i : ℕ = c.loop-value.value-index in
    let node : ℕ = (get_or rows i none).1 in
    let ids : c.push.new.self.ids ≡ 1 ∷ [] =
    ap (λ (s : FaultIds). s.ids) c.push.ensures
    ∙ ap (λ (s : FaultIds). s.ids ++ 1 ∷ []) c.in_ok-liars.ensures in
    subst (λ ids. is_in ids node ≡ false) (sym ids)
    (of_rows (λ v. is_in (1 ∷ []) v ≡ false) refl refl i c.loop-value-test.true)
