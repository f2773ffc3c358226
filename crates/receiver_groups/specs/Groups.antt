-- Named sets of receivers.
use Rattle.std.specs.Prelude.{ℕ, List, Bool, false, Option, Some, None, position}
use Rattle.std.specs.Str.{bytes_eq}
use Rattle.sync_types.specs.FaultSets.{is_in}

-- a named set of receivers
pub record Group : Type 0 where
  pub name : List ℕ
  pub ids : List ℕ

-- the place of the group of a name
abbrev pub group_at : List Group → List ℕ → Option ℕ
group_at groups name = position (λ group. bytes_eq name group.name) groups

-- whether v is in a group
abbrev pub in_group : Option Group → ℕ → Bool
in_group None v = false
in_group (Some group) v = is_in group.ids v
