-- What the machine of a plan keeps.
use Rattle.std.specs.Prelude.{◌≡◌}
use Rattle.construction.specs.Plans.{Plan}
use Rattle.plan_numbers.specs.Premises.{IsAccepted}
use Rattle.state_codec.specs.Shapes.{Shape, shape_of}

pub record IsValidPlanMachine (plan : Plan) (shape : Shape) : Type 0 where
  pub accepted : IsAccepted plan
  pub shaped : shape ≡ shape_of plan
