use Rattle.std.proofs.Common.{◌≡◌, map}
use Rattle.std.specs.List.{range_with_len}
use Rattle.halving_plan.specs.Plans.{tree_of}
use Rattle.halving_plan.specs.Runs.{all_fields}
use Rattle.state_codec.specs.Shapes.{with_further}
use Rattle.halving_runs.proofs.layer_shapes.shape_with.Given as goal

abbrev pub invariant-loop-v : goal.invariant-loop-v
invariant-loop-v l =
    l.fields.items
    ≡ map (λ v. with_further (all_fields (tree_of l.plan) l.plan.modulus v) l.values l.count)
    (range_with_len 0 l.v)
