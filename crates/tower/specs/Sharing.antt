-- What a shared round stands for, and what it keeps.
use Rattle.std.specs.Prelude.{◌≡◌, ℕ, List, [], length, map, Bool, true, All, if◌then◌else◌}
use Rattle.construction.specs.Plans.{Plan, nodes_of}
use Rattle.plan_numbers.specs.declared.numbers.LevelNums.{LevelNums}
use Rattle.plan_numbers.specs.Numbers.{levels_in, numbers_of}
use Rattle.plan_numbers.specs.Premises.{IsAccepted}
use Rattle.plan_laws.specs.PlanMeaning.{IsInRange}
use Rattle.shared_board.specs.GroupVotes.{Stands}
use Rattle.shared_board.specs.Sharing.{Shares}
use Rattle.shared_board.specs.Groups.{groups_of}
use Rattle.shared_board.specs.Boards.{Board, sent_of}
use Rattle.tower.specs.declared.rows.Row.{Row}
use Rattle.tower.specs.Rows.{AreRows}
use Rattle.tower.specs.Placings.{Placing, key_of, IsReady}

-- the plan of numbers
abbrev pub plan_of : (version base : ℕ) → List LevelNums → Plan
plan_of version base items = record { version = version; base = base; levels = levels_in items }

-- before the first configuration it stands for none
abbrev pub shares_of : (version base : ℕ) → List LevelNums → (is_made : Bool) → Board → Shares
shares_of version base items is_made board = record {
  plan = plan_of version base items;
  faulty = board.faulty;
  states = if is_made then board.states else [];
}

-- each group stands for the board
abbrev pub AllStand : Board → List Placing → Type 0
AllStand board groups = All (λ p. Stands (sent_of board p.height) p.group) groups

pub record IsShared (version base : ℕ) (items : List LevelNums) (rows : List Row) (is_made : Bool)
    (board : Board) (groups : List Placing) (all_settled : Bool) : Type 0 where
  pub accepted : IsAccepted (plan_of version base items)
  pub numbers : items ≡ numbers_of base (levels_in items)
  pub are_rows : AreRows (levels_in items) (nodes_of (levels_in items)) rows
  pub size : length board.states ≡ nodes_of (levels_in items)
  pub depth : board.depth ≡ length (levels_in items)
  pub keys : map key_of groups ≡ groups_of (levels_in items) 0
  pub ready : All IsReady groups
  pub stand : is_made ≡ true → AllStand board groups
  pub range : is_made ≡ true → All (IsInRange (plan_of version base items)) board.states
  pub settled : all_settled ≡ true → All (λ p. p.group.is_settled ≡ true) groups
