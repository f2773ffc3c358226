-- The groups with halves in which a node is.
use Rattle.std.specs.Prelude.{ℕ, zero, suc, nat_eq, List, [], ◌∷◌, Option, Some, None}
use Rattle.std.specs.Prelude.{if◌then◌else◌}
use Rattle.halving_plan.specs.Groups.{HalvingGroup, half_in}
use Rattle.trace.specs.declared.sides.Side.{Side}
use Rattle.trace.specs.declared.sides.Side.TheVariants as which

-- which half of a group it is: the left one begins where the group does
abbrev pub side_in : (group half : HalvingGroup) → Side
side_in group half = if nat_eq half.first group.first then which.Left else which.Right

-- a group, and which one of the plan it is
pub record SidedGroup : Type 0 where
  pub side : Side
  pub group : HalvingGroup

-- those of a half, if the node is in one; a spare is in none
abbrev pub in_half : Option HalvingGroup → (HalvingGroup → List SidedGroup) → List SidedGroup
in_half None groups = []
in_half (Some half) groups = groups half

-- the group, if it has halves, and then those of the half in which node v is; so many at most
abbrev pub groups_within : (most : ℕ) → Side → HalvingGroup → (v : ℕ) → List SidedGroup
groups_within zero side group v = []
groups_within (suc most) side group v =
    if nat_eq group.faults 0 then []
    else record { side = side; group = group }
    ∷ in_half (half_in group v) (λ half. groups_within most (side_in group half) half v)

-- From a group down to the lowest that has halves. A half tolerates fewer faults than its group, so
-- there are no more of them than the group tolerates faults.
abbrev pub groups_of : Side → HalvingGroup → (v : ℕ) → List SidedGroup
groups_of side group v = groups_within group.faults side group v
