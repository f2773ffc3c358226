-- When the new register of a node hangs on no lie.
use Rattle.std.specs.Prelude.{◌≡◌, ℕ, ◌+◌, ◌<◌, ◌≤◌, List, length, slice_index_or}
use Rattle.sync_types.specs.States.{State}
use Rattle.shared_board.specs.Senders.{IsTold, TellsItself}
use Rattle.shared_board.specs.GroupVotes.{Stands}
use Rattle.shared_board.specs.Boards.{Board, sent_of}
use Rattle.tower.specs.declared.rows.Row.{Row}
use Rattle.tower.specs.Placings.{Placing, register_by}

-- the group stands for the board, and the node is one of it
pub record Holds (board : Board) (node : ℕ) (placed : Placing) : Type 0 where
  pub height : placed.height < board.depth
  pub stands : Stands (sent_of board placed.height) placed.group
  pub first : placed.group.first ≤ node
  pub last : node < placed.group.first + placed.group.nums.nodes

-- the row leads the node to a group that has it
abbrev pub LeadsIn : Board → Row → (node : ℕ) → List Placing → (l : ℕ) → Type 0
LeadsIn board row node groups l =
    let place = slice_index_or row.places.items l 0 in
    (place < length groups)
    × ((none : Placing) → Holds board node (slice_index_or groups place none))

-- all lies leave one register to a node of the group, as long as it says its own to itself
abbrev pub IsShut : Board → (node : ℕ) → Placing → Type 0
IsShut board node placed =
    let s = sent_of board placed.height in
    (lies told : List State) → IsTold s lies → IsTold s told
    → TellsItself s lies node → TellsItself s told node
    → register_by board node lies placed ≡ register_by board node told placed

-- so it is at each level that stands above so many, if the row leads the node to a group
abbrev pub AreShut : Board → Row → (node : ℕ) → List Placing → (count : ℕ) → Type 0
AreShut board row node groups count =
    (l : ℕ) (none : Placing) → count ≤ l → l < length row.places.items → row.low ≤ l + 1
    → IsShut board node (slice_index_or groups (slice_index_or row.places.items l 0) none)
