-- What is attacked: a machine, by the shape of its states and the number of the line with which a
-- script begins.
use Rattle.std.specs.Prelude.{ℕ, ◌≤◌, ◌^◌}
use Rattle.state_codec.specs.Shapes.{Shape}
use Rattle.machines.specs.Machines.{Machine}
use Rattle.machine_runner.specs.Laws.{IsShapeOf}

-- a machine of some type
pub record Aim (M : Type 0) : Type 0 where
  pub machine : M
  pub shape : Shape
  pub first_line : ℕ

-- the number of a line after which there is room for any text
pub record IsFirstLine (line : ℕ) : Type 0 where
  pub least : 1 ≤ line
  pub most : line ≤ 2 ^ 32

-- the shape is that of the machine's states
pub record IsTarget (machine : Machine) (shape : Shape) (first_line : ℕ) : Type 0 where
  pub shaped : IsShapeOf machine shape
  pub line : IsFirstLine first_line
