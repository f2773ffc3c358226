-- A configuration by columns, and who lies in it.
use Rattle.std.specs.Prelude.{◌≡◌, ℕ, ◌+◌, ◌<◌, ◌≤◌, List, [], length, map, All, slice_index_or}
use Rattle.std.specs.Prelude.{Bool, unwrap_or}
use Rattle.std.specs.List.{range_with_len}
use Rattle.std.specs.List.Sorted.{IsStrictlyIncreasing}
use Rattle.sync_types.specs.declared.states.Reg.{Reg}
use Rattle.sync_types.specs.FaultSets.{is_in}
use Rattle.sync_types.specs.States.{State, zero_register, register_at}
use Rattle.construction.specs.Shown.{shown}
use Rattle.shared_board.specs.Sharing.{place_among}
use Rattle.shared_board.specs.Senders.{Sent}

-- states with so many registers each, and the ids of the liars among their nodes
pub record Board : Type 0 where
  pub depth : ℕ
  pub faulty : List ℕ
  pub states : List State

-- the nodes as the level sees them that stands above so many levels
abbrev pub sent_of : Board → (height : ℕ) → Sent
sent_of board height = record {
  height = height;
  outputs = map (shown height) board.states;
  registers = map (register_at height) board.states;
  liars = map (is_in board.faulty) (range_with_len 0 (length board.states));
}

-- ---- columns

-- the numbers of all states, their registers of a level, and what these show
abbrev pub numbers_of : List State → List ℕ
numbers_of states = map (λ s. s.x) states

abbrev pub registers_of : (level : ℕ) → List State → List Reg
registers_of level states = map (register_at level) states

abbrev pub outputs_of : (level : ℕ) → List State → List ℕ
outputs_of level states = map (λ s. unwrap_or (register_at level s).a 0) states

-- the columns of the first levels are those of the states, and the first column of outputs has the
-- numbers
pub record AreFilled (states : List State) (columns : List (List Reg)) (shows : List (List ℕ))
    (levels : ℕ) : Type 0 where
  pub numbers : slice_index_or shows 0 [] ≡ numbers_of states
  pub registers : (l : ℕ) → l < levels → slice_index_or columns l [] ≡ registers_of l states
  pub outputs : (l : ℕ) → l < levels → slice_index_or shows (l + 1) [] ≡ outputs_of l states

-- the state of node v by its number and its registers
abbrev pub state_by : (outputs : List (List ℕ)) (registers : List (List Reg)) (v : ℕ) → State
state_by outputs registers v = record {
  x = slice_index_or (slice_index_or outputs 0 []) v 0;
  registers = map (λ column. slice_index_or column v zero_register) registers;
}

abbrev pub board_of : (nodes : ℕ) (outputs : List (List ℕ)) (registers : List (List Reg))
    (liars : List ℕ) → Board
board_of nodes outputs registers liars = record {
  depth = length registers;
  faulty = liars;
  states = map (state_by outputs registers) (range_with_len 0 nodes);
}

-- rising ids of nodes
pub record AreLiars (nodes : ℕ) (ids : List ℕ) : Type 0 where
  pub rising : IsStrictlyIncreasing ids
  pub below : All (λ id. id < nodes) ids

-- what a board keeps
pub record IsBoard (nodes : ℕ) (shows : List (List ℕ)) (columns : List (List Reg))
    (ids : List ℕ) (marks : List Bool) (before : List ℕ) (room : ℕ) : Type 0 where
  pub most : nodes ≤ 256
  pub many : length shows ≡ length columns + 1
  pub outputs : All (λ column. length column ≡ nodes) shows
  pub registers : All (λ column. length column ≡ nodes) columns
  pub shown : (l : ℕ) → l < length columns → slice_index_or shows (l + 1) []
      ≡ map (λ r. unwrap_or r.a 0) (slice_index_or columns l [])
  pub liars : AreLiars nodes ids
  pub marked : marks ≡ map (is_in ids) (range_with_len 0 nodes)
  pub counted : before ≡ map (place_among ids) (range_with_len 0 (nodes + 1))
  pub has_room : nodes ≤ room
