-- The lies that a shared round heeds, by what it keeps and what it stands for.
use Rattle.std.proofs.Common.{◌≡◌, ℕ, ◌+◌, ◌-◌, ◌<◌, ◌≤◌, Bool, true, List}
use Rattle.std.proofs.Common.{length, get_or, sym, ap, ◌∙◌, subst, arith}
use Rattle.std.proofs.lemmas.List.{get_or_default}
use Rattle.counting.proofs.Places.{shorter}
use Rattle.sync_types.specs.FaultSets.{is_in}
use Rattle.sync_types.specs.States.{State}
use Rattle.construction.specs.Plans.{Plan, low_of, plan_nodes}
use Rattle.construction.specs.Steps.{state_of, step_of}
use Rattle.counter_core.specs.Meanings.{cut}
use Rattle.plan_numbers.specs.declared.numbers.LevelNums.{LevelNums}
use Rattle.plan_numbers.specs.Numbers.{levels_in}
use Rattle.shared_board.specs.Sharing.{Shares, Tells, heard_with, place_among}
use Rattle.shared_board.specs.Groups.{Group, group_at, nodes_in}
use Rattle.shared_board.proofs.Ids.{places_of_all}
use Rattle.shared_board.proofs.Nested.{IsWithin, groups_nest}
use Rattle.shared_board.specs.Boards.{Board, AreLiars}
use Rattle.tower.specs.declared.rows.Row.{Row}
use Rattle.tower.specs.Placings.{Placing, key_of}
use Rattle.tower.specs.Heeding.{LeadsIn, AreShut}
use Rattle.tower.specs.Sharing.{IsShared, shares_of}
use Rattle.tower.proofs.Standing.{HasNode, has_node}
use Rattle.tower.proofs.Stepped.{place_less, key_is, groups_fit}
use Rattle.tower.proofs.Heeding.{settled_shut, leads_in, step_alike}

module _ {version base : ℕ} {items : List LevelNums} {rows : List Row} {made : Bool} {board : Board}
    {groups : List Placing} {all_settled : Bool} {now : Shares} {plan : Plan} {node : ℕ} {row : Row}
    (kept : IsShared version base items rows made board groups all_settled)
    (stands : shares_of version base items made board ≡ now) (whose : now.plan ≡ plan)
    (size : length now.states ≡ plan_nodes plan) (some : node < plan_nodes plan)
    (at : row ≡ get_or rows node row) where
  has : HasNode version base items made board now plan node row
  has = has_node kept stands whose size some at

  -- the row leads the node to its group of each level
  pub leads : (l : ℕ) → l < length row.places.items → row.low ≤ l + 1
      → LeadsIn board row node groups l
  leads l lt low =
      leads_in (levels_in items) board groups kept.size kept.depth kept.keys kept.ready
      (kept.stand has.was_made)
      row node has.is_row has.within l (omega (arith, lt, has.deep)) low

  -- if all groups are settled, the node hangs on nothing
  pub all_shut : all_settled ≡ true → AreShut board row node groups 0
  all_shut all = λ l none le short low.
      let i : ℕ = get_or row.places.items l 0 in
      let lead = leads l short low in
      settled_shut board node (get_or groups i none) (lead.1 none) (kept.settled all i none lead.0)

  -- what the node says to itself, as the board has it
  own_state : (lies : List State) → Tells now node lies → is_in board.faulty node ≡ true
      → cut board.depth (state_of lies (place_among board.faulty node)) ≡ state_of board.states node
  own_state lies tells liar =
      ap (λ d. cut d (state_of lies (place_among board.faulty node))) kept.depth
      ∙ has.own lies tells liar

  module _ (liars : AreLiars (length board.states) board.faulty) (n : ℕ)
      (shut : AreShut board row node groups n) where
    -- if all open groups stand between two nodes, the lies of the liars there are enough
    enough : (from to : ℕ) → from ≤ to → to ≤ length board.states
        → ((l : ℕ) → l < n → l < length (levels_in items) → low_of (levels_in items) node ≤ l + 1
        → IsWithin (group_at (levels_in items) 0 node l) from to)
        → (lies told : List State) → Tells now node lies → Tells now node told
        → ((j : ℕ) → place_among board.faulty from ≤ j → j < place_among board.faulty to
        → state_of lies j ≡ state_of told j)
        → step_of plan node (heard_with now.faulty lies now.states)
        ≡ step_of plan node (heard_with now.faulty told now.states)
    enough from to order fits inner lies told tells tells_too alike =
        let long : (ls : List State) → Tells now node ls → length ls ≡ length board.faulty =
        λ ls t. t.size ∙ sym (ap length has.faulty_are) in
        sym (has.step lies)
        ∙ (step_alike (levels_in items) board groups kept.size kept.depth kept.keys kept.ready row
        node has.is_row has.within liars
        lies told (long lies tells) (long told tells_too) (own_state lies tells)
        (own_state told tells_too)
        n from to order fits alike has.deep shut inner version base
        ∙ has.step told)

    pub none_heeded : n ≡ 0 → (lies told : List State) → Tells now node lies → Tells now node told
        → step_of plan node (heard_with now.faulty lies now.states)
        ≡ step_of plan node (heard_with now.faulty told now.states)
    none_heeded none lies told tells tells_too =
        enough 0 0 (omega arith) (omega arith)
        (λ l lt short low. absurd (omega (arith, lt, none))) lies told tells tells_too
        (λ j low high. absurd (omega (arith, low, high)))

  module _ (n : ℕ) (order : n ≤ length row.places.items) (lowest : row.low ≤ n) (some_open : 0 < n)
      (i : ℕ) (i_is : i ≡ get_or row.places.items (n - 1) i) where
    top : n - 1 < length (levels_in items)
    top = omega (arith, order, has.deep, some_open)

    low_top : row.low ≤ n - 1 + 1
    low_top = omega (arith, lowest, some_open)

    place_is : i ≡ get_or row.places.items (n - 1) 0
    place_is = i_is ∙ get_or_default row.places.items (n - 1) i 0 (omega (arith, order, some_open))

    pub place_fits : i < length groups
    place_fits =
        let less = place_less
        (levels_in items) board groups kept.size kept.depth kept.keys kept.ready row node has.is_row
        has.within (n - 1) top low_top in
        omega (arith, less, place_is)

    module _ (p : Placing) (is : p ≡ get_or groups i p) where
      pub group_fits : p.group.first + p.group.nums.nodes ≤ length board.states
      group_fits =
          subst (λ (q : Placing). q.group.first + q.group.nums.nodes ≤ length board.states) (sym is)
          (groups_fit (levels_in items) board groups kept.size kept.depth kept.keys kept.ready i p
          place_fits)

      -- the open groups below are some of its nodes
      inner : (l : ℕ) → l < n → l < length (levels_in items) → low_of (levels_in items) node ≤ l + 1
          → IsWithin (group_at (levels_in items) 0 node l) p.group.first
          (p.group.first + p.group.nums.nodes)
      inner l lt short low =
          let key : key_of p ≡ group_at (levels_in items) 0 node (n - 1) =
          ap key_of (is ∙ ap (λ k. get_or groups k p) place_is)
          ∙ key_is (levels_in items) board groups kept.size kept.depth kept.keys kept.ready row
          node has.is_row has.within (n - 1) top low_top p in
          let nest = groups_nest (levels_in items) 0 node l (n - 1) has.within
          (omega (arith, lt)) top low in
          let first = ap (λ (g : Group). g.first) key in
          let count = ap nodes_in key in
          let whole = subst (λ (q : Placing). q.group.nums.nodes ≡ nodes_in (key_of q)) (sym is)
          (kept.ready i p place_fits).numbers.sized.whole in
          record {
            first = omega (arith, nest.first, first);
            last = omega (arith, nest.last, first, count, whole);
          }

      pub some_heeded : AreLiars (length board.states) board.faulty
          → AreShut board row node groups n
          → (first last : ℕ) → first ≡ place_among board.faulty p.group.first
          → last ≡ place_among board.faulty (p.group.first + p.group.nums.nodes)
          → (lies told : List State) → Tells now node lies → Tells now node told
          → ((j : ℕ) → first ≤ j → j < last → state_of lies j ≡ state_of told j)
          → step_of plan node (heard_with now.faulty lies now.states)
          ≡ step_of plan node (heard_with now.faulty told now.states)
      some_heeded liars shut first last begins ends lies told tells tells_too same =
          enough liars n shut p.group.first (p.group.first + p.group.nums.nodes)
          (omega arith) group_fits inner lies told tells tells_too
          (λ j low high. same j (omega (arith, low, begins)) (omega (arith, high, ends)))

      -- they are a stretch of all liars
      pub stretch_fits : AreLiars (length board.states) board.faulty
          → (first last : ℕ) → first ≡ place_among board.faulty p.group.first
          → last ≡ place_among board.faulty (p.group.first + p.group.nums.nodes)
          → (first ≤ last) × (last ≤ length now.faulty)
      stretch_fits liars first last begins ends =
          let all = places_of_all board.faulty (length board.states) liars.rising liars.below in
          let end : ℕ = p.group.first + p.group.nums.nodes in (
            omega (
              arith,
              begins,
              ends,
              shorter (is_in board.faulty) p.group.first end
                  (omega arith),
            ),
            omega (
              arith,
              ends,
              shorter (is_in board.faulty) end
                  (length board.states) group_fits,
              all,
              ap length has.faulty_are,
            ),
          )
