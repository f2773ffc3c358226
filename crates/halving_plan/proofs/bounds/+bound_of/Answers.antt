use Rattle.std.proofs.Common.{◌≡◌, ℕ, ◌-◌, ◌<◌, ap, ap₂, sym, ◌∙◌, arith}
use Rattle.halving_plan.specs.Trees.{tree_bound, tree_for, left_part, right_part}
use Rattle.halving_plan.specs.Trees.{bound_over}
use Rattle.halving_plan.proofs.Numbers.{bound_of_tree, of_faults}
use Rattle.halving_plan.proofs.Trees.{bound_of_halves}
use Rattle.halving_plan.proofs.bounds.+bound_of.Goals as goal

bound_is : (f l left right : ℕ) → l ≡ left_part f → left ≡ tree_bound (tree_for l 0)
    → right ≡ tree_bound (tree_for (f - 1 - l) 0)
    → bound_over (of_faults l (f - 1 - l)) left right
    ≡ bound_over (of_faults (left_part f) (right_part f))
    (tree_bound (tree_for (left_part f) 0)) (tree_bound (tree_for (right_part f) 0))
bound_is f l left right part left_is right_is =
    ap₂ (bound_over (of_faults l (f - 1 - l))) left_is right_is
    ∙ ap (λ l. bound_over (of_faults l (f - 1 - l)) (tree_bound (tree_for l 0))
    (tree_bound (tree_for (f - 1 - l) 0))) part

pub returns-clause-value : goal.returns-clause-value
returns-clause-value t c = λ spares.
    let f = c.args.faults in
    let l = c.left_part-left_faults.result in
    let some : 0 < f = omega arith in
    let left = c.bound_of-left.result in
    let right = c.bound_of-right.result in
    c.max.ensures
    ∙ (ap₂ (λ a b. bound_over (of_faults a b) left right) c.from.ensures c.from-2.ensures
    ∙ (bound_is f l left right c.left_part-left_faults.ensures (c.bound_of-left.ensures.value 0)
    (c.bound_of-right.ensures.value 0) ∙ sym (bound_of_halves f spares some)))

pub returns-clause-most : goal.returns-clause-most
returns-clause-most t c =
    omega (arith, returns-clause-value t c 0, bound_of_tree c.args.faults 0)
