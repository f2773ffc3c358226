use Rattle.std.proofs.Common.{◌≡◌, map}
use Rattle.std.specs.List.{range_with_len}
use Rattle.halving_plan.specs.Runs.{all_fields}
use Rattle.halving_plan.specs.Plans.{tree_of}
use Rattle.halving_plan.proofs.making.all_nodes_fields.Given as goal

abbrev pub invariant-loop-node : goal.invariant-loop-node
invariant-loop-node l =
    l.fields.items ≡ map (all_fields (tree_of l.plan) l.plan.modulus) (range_with_len 0 l.node)
