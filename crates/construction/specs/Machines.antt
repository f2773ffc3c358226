-- Rounds and runs of any counter, by what its states are, with faulty nodes, and that its outputs
-- come to count.
use Rattle.std.specs.Prelude.{◌≡◌, ℕ, ◌+◌, ◌%◌, ◌<◌, ◌≤◌, List, [], length, map, false, ◌==◌, ◌||◌}
use Rattle.std.specs.Prelude.{not, All, slice_index_or, if◌then◌else◌}
use Rattle.std.specs.List.{range_with_len}
use Rattle.std.specs.List.Sorted.{IsStrictlyIncreasing}
pub use Rattle.sync_types.specs.FaultSets.{is_in}
use Rattle.sync_types.specs.States.{State}
use Rattle.construction.specs.Steps.{state_of}

-- configuration t of a run
abbrev pub configuration : List (List State) → ℕ → List State
configuration run t = slice_index_or run t []

-- what v hears of u: the true state of itself and of a correct node, and of another faulty one what
-- it says to v
abbrev pub heard_of : (faulty : List ℕ) (old : List State) (lies : List (List State)) (v u : ℕ)
    → State
heard_of faulty old lies v u =
    if u == v || not (is_in faulty u) then state_of old u
    else state_of (slice_index_or lies u []) v

-- what v hears of all nodes
abbrev pub heard_by : (n : ℕ) (faulty : List ℕ) (old : List State) (lies : List (List State))
    (v : ℕ) → List State
heard_by n faulty old lies v = map (heard_of faulty old lies v) (range_with_len 0 n)

-- A machine: N nodes, of which F may be faulty, count modulo C from T on. Of each node, what a
-- state shows, and the next one from what is heard of all.
pub record Machine : Type 0 where
  pub nodes : ℕ
  pub faults : ℕ
  pub modulus : ℕ
  pub bound : ℕ
  pub depth : ℕ
  pub shows : (v : ℕ) → State → ℕ
  pub next : (v : ℕ) → List State → State

-- a machine, and which states its nodes have
module _ (machine : Machine) (is_state : (v : ℕ) → State → Type 0) where
  -- a state for each node
  pub record IsConfiguration (config : List State) : Type 0 where
    pub size : length config ≡ machine.nodes
    pub states : (v : ℕ) → v < machine.nodes → is_state v (state_of config v)

  -- what node u says to each receiver: states of its own
  pub record IsTold (u : ℕ) (told : List State) : Type 0 where
    pub size : length told ≡ machine.nodes
    pub states : All (is_state u) told

  -- for each sender, what it says to each receiver
  pub record IsTable (lies : List (List State)) : Type 0 where
    pub size : length lies ≡ machine.nodes
    pub rows : (u : ℕ) → u < machine.nodes → IsTold u (slice_index_or lies u [])

  -- A round: each correct node steps from what it hears. The states of faulty nodes are free.
  pub record Round (faulty : List ℕ) (old : List State) (lies : List (List State))
      (new : List State) : Type 0 where
    pub table : IsTable lies
    pub steps : (v : ℕ) → v < machine.nodes → is_in faulty v ≡ false
        → state_of new v ≡ machine.next v (heard_by machine.nodes faulty old lies v)

  -- the next configuration is that of a round with some table of lies
  pub record IsNext (faulty : List ℕ) (old new : List State) : Type 0 where
    pub lies : List (List State)
    pub round : Round faulty old lies new

  -- a run: at least one configuration, and a round between each two neighbours
  pub record Run (faulty : List ℕ) (run : List (List State)) : Type 0 where
    pub some : 0 < length run
    pub configurations : All IsConfiguration run
    pub rounds : (t : ℕ) → t + 1 < length run
        → IsNext faulty (configuration run t) (configuration run (t + 1))

module _ (machine : Machine) where
  -- all correct nodes show this number
  abbrev pub AllShow : (faulty : List ℕ) (config : List State) (output : ℕ) → Type 0
  AllShow faulty config output =
      (v : ℕ) → v < machine.nodes → is_in faulty v ≡ false
      → machine.shows v (state_of config v) ≡ output

  -- from a configuration on all correct nodes show one number, which grows by one modulo C
  pub record CountsFrom (faulty : List ℕ) (run : List (List State)) (from : ℕ) : Type 0 where
    pub output : ℕ → ℕ
    pub shows : (t : ℕ) → from ≤ t → t < length run
        → AllShow faulty (configuration run t) (output t)
    pub grows : (t : ℕ) → from ≤ t → t + 1 < length run
        → output (t + 1) ≡ (output t + 1) % machine.modulus

  -- a faulty set that the machine tolerates: rising ids of nodes, at most F
  pub record IsToleratedBy (faulty : List ℕ) : Type 0 where
    pub rising : IsStrictlyIncreasing faulty
    pub ids : All (λ id. id < machine.nodes) faulty
    pub few : length faulty ≤ machine.faults

  -- whatever the start and the lies, with each faulty set that it tolerates
  abbrev pub Settles : (is_state : (v : ℕ) → State → Type 0) → Type 0
  Settles is_state =
      (faulty : List ℕ) (run : List (List State)) → IsToleratedBy faulty
      → Run machine is_state faulty run → CountsFrom faulty run machine.bound
