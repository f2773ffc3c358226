-- Groups with the number of levels that stand below, and what a node gets of them.
use Rattle.std.specs.Prelude.{◌≡◌, ℕ, ◌+◌, ◌<◌, ◌≤◌, List, length, map, nat_le, slice_index_or}
use Rattle.std.specs.Prelude.{if◌then◌else◌}
use Rattle.sync_types.specs.declared.states.Reg.{Reg}
use Rattle.sync_types.specs.States.{State, zero_register, register_at}
use Rattle.plan_numbers.specs.Numbers.{level_of}
use Rattle.plan_numbers.specs.Sizes.{block_nodes}
use Rattle.shared_board.specs.GroupVotes.{Contents, HasRoom, Stands, AreBelow, AreLies}
use Rattle.shared_board.specs.GroupVotes.{register_heard}
use Rattle.shared_board.specs.Sharing.{honest_in}
use Rattle.shared_board.specs.Groups.{Group}
use Rattle.shared_board.specs.Boards.{Board, sent_of}
use Rattle.tower.specs.declared.rows.Row.{Row}

-- a group with how many levels stand below it
pub record Placing : Type 0 where
  pub height : ℕ
  pub group : Contents

-- which group it is
abbrev pub key_of : Placing → Group
key_of placed = record {
  level = level_of placed.group.nums;
  below = placed.height;
  block = block_nodes placed.group.nums;
  first = placed.group.first;
}

-- it has the room that it needs
abbrev pub IsReady : Placing → Type 0
IsReady placed = HasRoom placed.group

-- it has the room that it needs, and the board has its level and its nodes
pub record IsPlacedOn (board : Board) (placed : Placing) : Type 0 where
  pub ready : IsReady placed
  pub height : placed.height < board.depth
  pub within : placed.group.first + placed.group.nums.nodes ≤ length board.states

-- how many correct nodes it has
abbrev pub cost_of : Board → Placing → ℕ
cost_of board placed =
    length (honest_in board.faulty placed.group.first placed.group.nums.nodes)

-- the group stands for the board, and the node, which is one of it, hears these lies
pub record CanStep (board : Board) (node : ℕ) (lies : List State) (placed : Placing) : Type 0 where
  pub height : placed.height < board.depth
  pub stands : Stands (sent_of board placed.height) placed.group
  pub first : placed.group.first ≤ node
  pub last : node < placed.group.first + placed.group.nums.nodes
  pub within : placed.group.first + placed.group.nums.nodes ≤ length board.states
  pub below : AreBelow placed.group.nums.modulus (map (register_at placed.height) board.states)
  pub told : length lies ≡ length board.faulty
  pub lies_below : AreLies placed.height placed.group.nums.modulus lies
  pub few_blocks : placed.group.nums.blocks ≤ 16

-- the new register of a node of the group
abbrev pub register_by : Board → (node : ℕ) → (lies : List State) → Placing → Reg
register_by board node lies placed =
    register_heard (sent_of board placed.height) placed.group.nums placed.group.first node lies

-- the new register of a node at a level: that of its group, or zero if it has none
abbrev pub row_register : Board → Row → (node : ℕ) → (lies : List State) → List Placing → (l : ℕ)
    → Reg
row_register board row node lies groups l =
    let place = slice_index_or row.places.items l 0 in
    if nat_le row.low (l + 1)
    then slice_index_or (map (register_by board node lies) groups) place zero_register
    else zero_register

-- the row leads a node to a group in which it can step
abbrev pub Leads : Board → Row → (node : ℕ) → (lies : List State) → List Placing → (l : ℕ) → Type 0
Leads board row node lies groups l =
    let place = slice_index_or row.places.items l 0 in
    (place < length groups)
    × ((none : Placing) → CanStep board node lies (slice_index_or groups place none))
