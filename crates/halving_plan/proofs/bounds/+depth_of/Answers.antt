use Rattle.std.proofs.Common.{◌-◌, ◌<◌, ap, arith}
use Rattle.halving_plan.specs.Trees.{tree_height, tree_for}
use Rattle.halving_plan.proofs.Trees.{height_of}
use Rattle.halving_plan.proofs.bounds.+depth_of.Goals as goal

pub returns-clause-value : goal.returns-clause-value
returns-clause-value t c = λ spares.
    let some : 0 < c.args.faults = omega arith in
    omega (
      arith,
      height_of c.args.faults spares some,
      c.depth_of.ensures.value 0,
      ap (λ l. tree_height (tree_for (c.args.faults - 1 - l) 0)) c.left_part-left.ensures,
    )
