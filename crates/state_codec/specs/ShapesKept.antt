-- What the shape of states keeps.
use Rattle.std.specs.Prelude.{◌≡◌, ◌<◌, ◌≤◌, ℕ, List, length, map, slice_index_or, All}
use Rattle.state_codec.specs.Shapes.{Fields, no_fields, Shape, IsShape}

-- the fields of each node, if there are these kinds, and it has this one
abbrev pub fields_by : List Fields → (which : List ℕ) → List Fields
fields_by kinds which = map (λ kind. slice_index_or kinds kind no_fields) which

-- a shape within the limits, whose nodes have fields of these kinds, all of its depth
pub record IsValidShape (shape : Shape) (kinds : List Fields) (which : List ℕ) : Type 0 where
  pub sound : IsShape shape
  pub nodes : length which ≤ 256
  pub fields : shape.fields ≡ fields_by kinds which
  pub depth : All (λ fields. length fields.moduli ≡ shape.depth) kinds
  pub among : All (λ kind. kind < length kinds) which
