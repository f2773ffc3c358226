use Rattle.std.proofs.Common.{◌≡◌, ℕ, ◌+◌, ◌*◌, ◌<◌, ◌≤◌, true, length, map, take, get_or, All}
use Rattle.std.specs.List.{sum_by}
use Rattle.shared_board.specs.GroupVotes.{Stands}
use Rattle.shared_board.specs.Boards.{sent_of}
use Rattle.tower.specs.Placings.{Placing}
use Rattle.tower.specs.Placings.{key_of, cost_of, IsPlacedOn}
use Rattle.tower.proofs.groups.gather_groups.Given as goal

abbrev pub invariant-loop-g : goal.invariant-loop-g
invariant-loop-g g l = record {
  keys : map key_of l.groups ≡ map key_of l.initial.groups;
  costs : map (cost_of l.board) l.groups ≡ map (cost_of l.board) l.initial.groups;
  size : length l.groups ≡ length l.initial.groups;
  fits : All (IsPlacedOn l.board) l.groups;
  stand : (i : ℕ) (none : Placing) → i < l.g
      → Stands (sent_of l.board (get_or l.groups i none).height) (get_or l.groups i none).group;
  settled : l.all_settled ≡ true → (i : ℕ) (none : Placing) → i < l.g
      → (get_or l.groups i none).group.is_settled ≡ true;
  steps : l.steps ≤ l.initial.steps + 3 * sum_by (cost_of l.board) (take l.g l.initial.groups);
}
