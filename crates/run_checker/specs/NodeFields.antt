-- The fields of a node of a plan.
use Rattle.std.specs.Prelude.{ℕ}
use Rattle.construction.specs.Plans.{Plan}
use Rattle.state_codec.specs.Shapes.{Fields, fields_at, shape_of}

-- those that node v has: its digits are of their length
abbrev pub fields_of : Plan → (v : ℕ) → Fields
fields_of plan v = fields_at (shape_of plan) v
