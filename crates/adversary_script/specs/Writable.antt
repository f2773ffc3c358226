-- Which scripts have a text: those that a text can say.
use Rattle.std.specs.Prelude.{◌≡◌, ℕ, ◌^◌, ◌<◌, ◌≤◌, List, [], length, map, true, false, All}
use Rattle.std.specs.Prelude.{⊤, codes}
use Rattle.std.specs.List.{list_any}
use Rattle.std.specs.List.Sorted.{IsStrictlyIncreasing}
use Rattle.std.specs.Str.{bytes_eq}
use Rattle.sync_types.specs.FaultSets.{is_in}
use Rattle.construction.specs.Plans.{Plan, plan_nodes, plan_faults}
use Rattle.state_codec.specs.Shapes.{Shape, fields_at, bytes_in}
use Rattle.adversary_script.specs.declared.lies.Who.{Who}
use Rattle.adversary_script.specs.declared.lies.Who.TheVariants as who
use Rattle.adversary_script.specs.declared.lies.What.{What}
use Rattle.adversary_script.specs.declared.lies.What.TheVariants as what
use Rattle.adversary_script.specs.declared.lies.Lie.{Lie}
use Rattle.adversary_script.specs.declared.lies.Start.{Start}
use Rattle.adversary_script.specs.WordTests.{is_name}
use Rattle.adversary_script.specs.Scripts.{Group, Script, faulty_sets, IsScript}
use Rattle.adversary_script.specs.ScriptPart.{IsScriptFor}
use Rattle.adversary_script.specs.ScriptTexts.{group_in}

-- the digits of the states of each of so many nodes are some, and not too many for a line
abbrev pub FitsLines : (nodes : ℕ) → Shape → Type 0
FitsLines nodes shape = (v : ℕ) → v < nodes
    → (1 ≤ bytes_in (fields_at shape v)) × (bytes_in (fields_at shape v) ≤ 2000)

-- 32 bytes
pub record IsKey (key : List ℕ) : Type 0 where
  pub size : length key ≡ 32
  pub bytes : All (λ byte. byte < 256) key

-- the nodes of start lines rise, and there are so many nodes
pub record AreStarts (nodes : ℕ) (starts : List Start) : Type 0 where
  pub rising : IsStrictlyIncreasing (map (λ start. start.node) starts)
  pub below : All (λ start. start.node < nodes) starts

-- a name, but not `all`, for some rising ids of so many nodes
pub record IsGroup (nodes : ℕ) (group : Group) : Type 0 where
  pub named : is_name group.name ≡ true
  pub other : bytes_eq group.name (codes "all") ≡ false
  pub some : 1 ≤ length group.ids
  pub rising : IsStrictlyIncreasing group.ids
  pub below : All (λ id. id < nodes) group.ids

-- at most 256 groups, no two of one name
pub record AreGroups (nodes : ℕ) (groups : List Group) : Type 0 where
  pub many : length groups ≤ 256
  pub each : All (IsGroup nodes) groups
  pub apart : (i j : ℕ) → i < length groups → j < length groups
      → (group_in groups i).name ≡ (group_in groups j).name → i ≡ j

-- two ids of so many nodes, the smaller one first, or a group that there is
abbrev pub IsHeard : (nodes : ℕ) → List Group → Who → Type 0
IsHeard nodes groups who.All = ⊤
IsHeard nodes groups (who.Ids p q) = (p ≤ q) × (q < nodes)
IsHeard nodes groups (who.Group i) = i < length groups

-- a number that is added has at most 15 digits
abbrev pub IsSayable : What → Type 0
IsSayable (what.Shift by) = by < 10 ^ 15
IsSayable other = ⊤

-- a lie of a node that is faulty in one of these sets; its last round is not before its first, and
-- has at most 15 digits
pub record IsLie (nodes : ℕ) (groups : List Group) (sets : List (List ℕ)) (lie : Lie) : Type 0 where
  pub faulty : list_any (λ ids. is_in ids lie.sender) sets ≡ true
  pub order : lie.first ≤ lie.last
  pub last : lie.last < 10 ^ 15
  pub who : IsHeard nodes groups lie.who
  pub what : IsSayable lie.what

-- A script for n nodes, of which f may be faulty, and states of a shape that a text says: in
-- version 1 it has no further eras, and it has at most 256 lies.
pub record IsWritableFor (n f : ℕ) (shape : Shape) (s : Script) : Type 0 where
  pub for : IsScriptFor n f shape s
  pub whole : IsScript s
  pub oldest : 1 ≤ s.version
  pub newest : s.version ≤ 2
  pub eras : s.version ≡ 1 → s.eras ≡ []
  pub key : IsKey s.key
  pub starts : AreStarts s.nodes s.starts
  pub hits : All (λ era. AreStarts s.nodes era.starts) s.eras
  pub groups : AreGroups s.nodes s.groups
  pub many : length s.lies ≤ 256
  pub lies : All (IsLie s.nodes s.groups (faulty_sets s)) s.lies

-- a script for a plan and states of a shape that a text says
abbrev pub IsWritable : (plan : Plan) → Shape → Script → Type 0
IsWritable plan = IsWritableFor (plan_nodes plan) (plan_faults plan)
