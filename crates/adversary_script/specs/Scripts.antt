-- What a script says.
pub use Rattle.receiver_groups.specs.Groups.{Group}
use Rattle.std.specs.Prelude.{ℕ, ◌<◌, ◌≤◌, List, [], ◌∷◌, length, map, replicate, All, ⊤}
use Rattle.std.specs.List.Sorted.{IsStrictlyIncreasing}
use Rattle.state_codec.specs.Shapes.{Fields, Shape, fields_at}
use Rattle.state_codec.specs.Ranges.{InRange}
use Rattle.adversary_script.specs.declared.lies.CommonStart.{CommonStart}
use Rattle.adversary_script.specs.declared.lies.CommonStart.TheVariants as common
use Rattle.adversary_script.specs.declared.lies.What.{What}
use Rattle.adversary_script.specs.declared.lies.What.TheVariants as what
use Rattle.adversary_script.specs.declared.lies.Lie.{Lie}
use Rattle.adversary_script.specs.declared.lies.Start.{Start}

-- from configuration `first` on these nodes are faulty, and there some nodes are put into states
pub record Era : Type 0 where
  pub first : ℕ
  pub faulty : List ℕ
  pub starts : List Start

-- A script for so many nodes with states of that shape: its version, the ids that are faulty at
-- first, the 32 bytes of the noise key, the start of all nodes and those of single nodes, the
-- further eras, the groups and the lies in their order, how many rounds are played, and the first
-- and the last configuration that is shown.
pub record Script : Type 0 where
  pub version : ℕ
  pub nodes : ℕ
  pub shape : Shape
  pub faulty : List ℕ
  pub key : List ℕ
  pub common : CommonStart
  pub starts : List Start
  pub eras : List Era
  pub groups : List Group
  pub lies : List Lie
  pub rounds : ℕ
  pub first : ℕ
  pub last : ℕ

-- the script that says nothing
abbrev pub empty_script : (nodes : ℕ) → Shape → Script
empty_script nodes shape = record {
  version = 1;
  nodes = nodes;
  shape = shape;
  faulty = [];
  key = replicate 32 0;
  common = common.Zero;
  starts = [];
  eras = [];
  groups = [];
  lies = [];
  rounds = 0;
  first = 0;
  last = 0;
}

-- the first configuration of each era, era 0 among them
abbrev pub firsts : Script → List ℕ
firsts s = 0 ∷ map (λ era. era.first) s.eras

-- the faulty nodes of each era
abbrev pub faulty_sets : Script → List (List ℕ)
faulty_sets s = s.faulty ∷ map (λ era. era.faulty) s.eras

-- what is said of a node with these fields: a node that is copied is one of n, and a state is in
-- range
abbrev pub IsLying : (n : ℕ) → Fields → What → Type 0
IsLying n fields what.Noise = ⊤
IsLying n fields (what.Copy w) = w < n
IsLying n fields (what.State s) = InRange fields s
IsLying n fields (what.Shift d) = ⊤

-- the states of start lines are in range, each at its node's fields
abbrev pub AreInRange : Shape → List Start → Type 0
AreInRange shape starts = All (λ start. InRange (fields_at shape start.node) start.state) starts

-- how many rounds a script has at most
abbrev pub most_rounds : ℕ
most_rounds = 1000000

-- what holds of a script after each of its lines
pub record IsFormed (s : Script) : Type 0 where
  pub ids : All (All (λ id. id < s.nodes)) (faulty_sets s)
  pub senders : All (λ lie. lie.sender < s.nodes) s.lies
  pub lies : All (λ lie. IsLying s.nodes (fields_at s.shape lie.sender) lie.what) s.lies
  pub starts : AreInRange s.shape s.starts
  pub hits : All (λ era. AreInRange s.shape era.starts) s.eras
  pub many : length s.eras ≤ 16
  pub rising : IsStrictlyIncreasing (firsts s)
  pub few : s.rounds ≤ most_rounds
  pub order : s.first ≤ s.last
  pub shown : s.last ≤ s.rounds

-- each era begins with a configuration that is played
abbrev pub AreWithin : Script → Type 0
AreWithin s = All (λ first. first ≤ s.rounds) (firsts s)

-- what holds of every script that was read
pub record IsScript (s : Script) : Type 0 where
  pub formed : IsFormed s
  pub within : AreWithin s
