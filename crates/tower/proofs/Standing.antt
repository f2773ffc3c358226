-- What a shared round that stands for states has of a node.
use Rattle.std.proofs.Common.{◌≡◌, ℕ, ◌<◌, Bool, true, if◌then◌else◌, List, [], length, get_or}
use Rattle.std.proofs.Common.{sym, ap, ◌∙◌, subst, arith}
use Rattle.std.proofs.lemmas.List.FromFn.{length-map-range_with_len}
use Rattle.sync_types.specs.FaultSets.{is_in}
use Rattle.sync_types.specs.States.{State}
use Rattle.construction.specs.Plans.{Plan, nodes_of, plan_nodes, plan_depth}
use Rattle.construction.specs.Steps.{state_of, step_of}
use Rattle.counter_core.specs.Meanings.{cut}
use Rattle.plan_numbers.specs.declared.numbers.LevelNums.{LevelNums}
use Rattle.plan_numbers.specs.Numbers.{levels_in}
use Rattle.shared_board.specs.Sharing.{Shares, Tells, heard_with, place_among}
use Rattle.shared_board.specs.Groups.{index_at}
use Rattle.shared_board.specs.Boards.{Board}
use Rattle.tower.specs.declared.rows.Row.{Row}
use Rattle.tower.specs.Rows.{IsRow}
use Rattle.tower.specs.Placings.{Placing}
use Rattle.tower.specs.Sharing.{IsShared, plan_of, shares_of}
use Rattle.tower.proofs.Made.{is_made, made_states}

-- what it keeps is what it stands for, and the node has this row
pub record HasNode (version base : ℕ) (items : List LevelNums) (made : Bool) (board : Board)
    (now : Shares) (plan : Plan) (node : ℕ) (row : Row) : Type 0 where
  pub was_made : made ≡ true
  pub plan_is : plan_of version base items ≡ plan
  pub states_are : board.states ≡ now.states
  pub faulty_are : board.faulty ≡ now.faulty
  pub within : node < nodes_of (levels_in items)
  pub is_row : IsRow (levels_in items) node row
  pub deep : length row.places.items ≡ length (levels_in items)
  -- what a liar says to itself, as the board has it
  pub own : (lies : List State) → Tells now node lies → is_in board.faulty node ≡ true
      → cut (length (levels_in items)) (state_of lies (place_among board.faulty node))
      ≡ state_of board.states node
  -- the step by what it keeps
  pub step : (lies : List State)
      → step_of (plan_of version base items) node (heard_with board.faulty lies board.states)
      ≡ step_of plan node (heard_with now.faulty lies now.states)

pub has_node : {version base : ℕ} {items : List LevelNums} {rows : List Row} {made : Bool}
    {board : Board} {groups : List Placing} {all_settled : Bool} {now : Shares} {plan : Plan}
    {node : ℕ} {row : Row}
    → IsShared version base items rows made board groups all_settled
    → shares_of version base items made board ≡ now → now.plan ≡ plan
    → length now.states ≡ plan_nodes plan → node < plan_nodes plan → row ≡ get_or rows node row
    → HasNode version base items made board now plan node row
has_node {version} {base} {items} {rows} {made} {board} {groups} {all_settled} {now} {plan} {node}
    {row} kept stands whose size some at =
    let plan_now : plan_of version base items ≡ now.plan = ap (λ (s : Shares). s.plan) stands in
    let plan_is : plan_of version base items ≡ plan = plan_now ∙ whose in
    let nodes : nodes_of (levels_in items) ≡ plan_nodes plan = ap plan_nodes plan_is in
    let shown : length (if made then board.states else []) ≡ nodes_of (levels_in items) =
    ap (λ (s : Shares). length s.states) stands ∙ (size ∙ sym nodes) in
    let within : node < nodes_of (levels_in items) = omega (arith, some, nodes) in
    let was_made = is_made made board.states (nodes_of (levels_in items)) shown
    (omega (arith, within)) in
    let states : board.states ≡ now.states =
    sym (made_states made board.states was_made) ∙ ap (λ (s : Shares). s.states) stands in
    let faulty : board.faulty ≡ now.faulty = ap (λ (s : Shares). s.faulty) stands in
    let is_row : IsRow (levels_in items) node row =
    subst (IsRow (levels_in items) node) (sym at) (kept.are_rows.each node row within) in
    record {
      was_made = was_made;
      plan_is = plan_is;
      states_are = states;
      faulty_are = faulty;
      within = within;
      is_row = is_row;
      deep = ap length is_row.indices
          ∙ length-map-range_with_len (index_at (levels_in items) node) 0
          (length (levels_in items));
      own = λ lies tells liar.
          ap (λ ids. cut (length (levels_in items)) (state_of lies (place_among ids node))) faulty
          ∙ (ap (λ (p : Plan). cut (plan_depth p) (state_of lies (place_among now.faulty node)))
          plan_now
          ∙ (tells.own (subst (λ ids. is_in ids node ≡ true) faulty liar)
          ∙ ap (λ ss. state_of ss node) (sym states)));
      step = λ lies.
          ap (λ (p : Plan). step_of p node (heard_with board.faulty lies board.states)) plan_is
          ∙ (ap (λ ids. step_of plan node (heard_with ids lies board.states)) faulty
          ∙ ap (λ ss. step_of plan node (heard_with now.faulty lies ss)) states);
    }
