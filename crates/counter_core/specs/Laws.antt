-- What holds of each counter, beside that it settles.
use Rattle.std.specs.Prelude.{◌≡◌, ℕ, ◌*◌, ◌^◌, ◌<◌, ◌≤◌, List, length, map, All}
use Rattle.sync_types.specs.States.{State}
use Rattle.counter_core.specs.Meanings.{Meaning, cut}

-- how large its numbers are, what states show, and how many registers the step gives
pub record Sizes (m : Meaning) (in_range : State → Type 0) : Type 0 where
  pub some : 1 ≤ m.nodes
  pub most : m.nodes ≤ 256
  pub few : 3 * m.faults < m.nodes
  pub two : 2 ≤ m.modulus
  pub modulus : m.modulus ≤ 2 ^ 40
  pub bound : m.bound < m.nodes * 2 ^ 40
  pub shallow : m.depth < m.nodes
  pub shown : (v : ℕ) (s : State) → v < m.nodes → in_range s → m.shows v s < m.modulus
  pub deep : (v : ℕ) (heard : List State) → v < m.nodes → length heard ≡ m.nodes
      → length (m.next v heard).registers ≡ m.depth

-- the level from which on the node at a place takes part is at most the depth
abbrev pub LowsAreWithin : (m : Meaning) (low : (v : ℕ) → ℕ) → Type 0
LowsAreWithin m low = (v : ℕ) → v < m.nodes → low v ≤ m.depth

-- the step leads from states in range to one in range
abbrev pub StaysInRange : (m : Meaning) (in_range : State → Type 0) → Type 0
StaysInRange m in_range = (v : ℕ) (heard : List State) → v < m.nodes → length heard ≡ m.nodes
    → All in_range heard → in_range (m.next v heard)

-- registers after the counter's own matter to nothing
pub record IgnoresFurther (m : Meaning) (in_range : State → Type 0) : Type 0 where
  pub next : (v : ℕ) (heard : List State) → v < m.nodes → length heard ≡ m.nodes
      → m.next v (map (cut m.depth) heard) ≡ m.next v heard
  pub shows : (v : ℕ) (s : State) → v < m.nodes → m.shows v (cut m.depth s) ≡ m.shows v s
  pub into_cut : (s : State) → in_range s → in_range (cut m.depth s)
  pub from_cut : (s : State) → in_range (cut m.depth s) → in_range s
