-- What the parts that the code keeps of a script stand for.
use Rattle.std.specs.Prelude.{◌≡◌, ℕ, [], map, Option, Some, None, All, IfSome}
use Rattle.sync_types.specs.FaultSets.{FaultIds}
use Rattle.state_codec.specs.Shapes.{Shape}
use Rattle.adversary_script.specs.declared.parts.Era as kept
use Rattle.adversary_script.specs.declared.parts.Parts.{Parts}
use Rattle.adversary_script.specs.Scripts.{Era, Script}

abbrev pub era_seen : kept.Era → Era
era_seen era = record { first = era.first; faulty = era.faulty.ids; starts = era.starts.items }

-- the script for states of a shape, with these nodes faulty at first
abbrev pub script_seen : Shape → FaultIds → Parts → Script
script_seen shape faulty parts = record {
  version = parts.version;
  nodes = faulty.nodes;
  shape = shape;
  faulty = faulty.ids;
  key = parts.key;
  common = parts.common;
  starts = parts.starts.items;
  eras = map era_seen parts.eras.items;
  groups = parts.groups;
  lies = parts.lies.items;
  rounds = parts.rounds;
  first = parts.first;
  last = parts.last;
}

-- the faulty nodes, of which there are none as long as nothing is said of them
abbrev pub faulty_or_none : (nodes : ℕ) → Option FaultIds → FaultIds
faulty_or_none nodes None = record { nodes = nodes; ids = [] }
faulty_or_none nodes (Some set) = set

-- the sets of faulty nodes are sets of as many nodes
pub record IsOver (nodes : ℕ) (faulty : Option FaultIds) (parts : Parts) : Type 0 where
  pub first : IfSome faulty (λ set. set.nodes ≡ nodes)
  pub further : All (λ era. era.faulty.nodes ≡ nodes) parts.eras.items
