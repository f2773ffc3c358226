-- A set of faulty nodes is a rising list of ids, each below the number of nodes.
use Rattle.std.specs.Prelude.{◌≡◌, ℕ, ◌<◌, ◌≤◌, List, length, Bool, false, ◌==◌, All}
use Rattle.std.specs.Prelude.{slice_index_or}
use Rattle.std.specs.List.{list_any}
use Rattle.std.specs.List.Sorted.{IsStrictlyIncreasing}

-- so many nodes, and the ids of the faulty ones among them
pub record FaultIds : Type 0 where
  pub nodes : ℕ
  pub ids : List ℕ

-- whether an id is among these
abbrev pub is_in : List ℕ → ℕ → Bool
is_in ids v = list_any (λ id. v == id) ids

-- the ids rise, and each is that of a node
pub record AreFaulty (set : FaultIds) : Type 0 where
  pub rising : IsStrictlyIncreasing set.ids
  pub below : All (λ id. id < set.nodes) set.ids

-- What a set keeps: its ids, room for as many as there are nodes, and for each node a mark, whether
-- its id is among them.
pub record IsValidFaultSet (nodes : ℕ) (ids : List ℕ) (marks : List Bool)
    (capacity : ℕ) : Type 0 where
  pub rising : IsStrictlyIncreasing ids
  pub below : All (λ id. id < nodes) ids
  pub size : length marks ≡ nodes
  pub marked : (v : ℕ) → slice_index_or marks v false ≡ is_in ids v
  pub room : nodes ≤ capacity
