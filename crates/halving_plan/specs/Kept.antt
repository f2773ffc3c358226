-- What the machine of a plan keeps.
use Rattle.std.specs.Prelude.{◌≡◌, List, map}
use Rattle.std.specs.List.{range_with_len}
use Rattle.state_codec.specs.Shapes.{Fields}
use Rattle.halving_plan.specs.Runs.{all_fields}
use Rattle.halving_plan.specs.Plans.{HalvingNumbers, IsAccepted, tree_of}

pub record IsValidHalvingMachine (plan : HalvingNumbers) (fields : List Fields) : Type 0 where
  pub accepted : IsAccepted plan
  pub each : fields ≡ map (all_fields (tree_of plan) plan.modulus) (range_with_len 0 plan.nodes)
