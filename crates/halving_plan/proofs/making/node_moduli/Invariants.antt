use Rattle.std.proofs.Common.{◌≡◌, take}
use Rattle.halving_plan.specs.Runs.{all_fields}
use Rattle.halving_plan.specs.Plans.{tree_of}
use Rattle.halving_plan.proofs.making.node_moduli.Given as goal

abbrev pub invariant-loop-i : goal.invariant-loop-i
invariant-loop-i l =
    l.moduli.items ≡ take l.i (all_fields (tree_of l.plan) l.plan.modulus l.node).moduli
