-- What two configurations keep.
use Rattle.std.proofs.Common.{◌≡◌, ℕ, length, ◌∙◌}
use Rattle.sync_types.specs.States.{State}
use Rattle.state_codec.specs.Shapes.{Shape, fields_at}
use Rattle.state_codec.specs.Ranges.{InRange}
use Rattle.state_codec.proofs.Lows.{depth_at}

-- a state in range has as many registers as the shape
pub depth_in_range : (shape : Shape) (v : ℕ) (s : State) → InRange (fields_at shape v) s
    → length s.registers ≡ shape.depth
depth_in_range shape v s range = range.depth ∙ depth_at shape v
