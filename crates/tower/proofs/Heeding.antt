-- The step of a node hangs on the lies of the widest group that is open to it: above it no register
-- hangs on lies, and the groups below it are some of its nodes.
use Rattle.std.proofs.Common.{◌≡◌, ℕ, ◌+◌, ◌<◌, ◌≤◌, Bool, true, false, if◌then◌else◌, List, []}
use Rattle.std.proofs.Common.{◌∷◌, ◌++◌, length, map, drop, get_or, All, Option, Some, None, IfSome}
use Rattle.std.proofs.Common.{sym, ap, ◌∙◌, subst, ⊎_elim, arith}
use Rattle.std.specs.Prelude.{nat_le, ◌==◌}
use Rattle.std.specs.List.{range_with_len}
use Rattle.std.proofs.Math.Seq.{drop-nil}
use Rattle.std.proofs.lemmas.Bool.{cases_lt, le-leb, lt-leb}
use Rattle.std.proofs.lemmas.List.{append-nil, get_or-map, get_or-take}
use Rattle.sync_types.specs.declared.states.Reg.{Reg}
use Rattle.sync_types.specs.FaultSets.{is_in}
use Rattle.sync_types.specs.States.{State, zero_state, zero_register, register_at}
use Rattle.construction.specs.Plans.{Level, Plan, nodes_of, low_of}
use Rattle.construction.specs.PhaseKing.{up}
use Rattle.construction.specs.Steps.{state_of, step_of}
use Rattle.counter_core.specs.Meanings.{cut, written}
use Rattle.shared_board.specs.Senders.{Sent, TellsItself}
use Rattle.shared_board.proofs.Registers.{locked_heard}
use Rattle.shared_board.specs.Sharing.{place_among, heard_with}
use Rattle.shared_board.specs.Groups.{Group, groups_of, group_at, nodes_in}
use Rattle.shared_board.proofs.Places.{group_has}
use Rattle.shared_board.proofs.Nested.{IsWithin}
use Rattle.shared_board.proofs.GroupStretches.{same_range}
use Rattle.shared_board.specs.Boards.{Board, sent_of, AreLiars}
use Rattle.shared_board.proofs.RegistersHeard.{liar_is, below_is, told_is}
use Rattle.shared_board.proofs.Heeding.{register_alike}
use Rattle.tower.specs.declared.rows.Row.{Row}
use Rattle.tower.specs.Rows.{IsRow}
use Rattle.tower.specs.Placings.{Placing, key_of, IsReady, register_by, row_register}
use Rattle.tower.specs.Heeding.{Holds, IsShut, LeadsIn, AreShut}
use Rattle.tower.specs.Sharing.{AllStand}
use Rattle.tower.proofs.Stepped.{place_less, key_is, step_is}

-- a state in the room of one with no registers is that state
bare : (depth : ℕ) (s : State) → written depth s (zero_state 0) ≡ s
bare depth s =
    ap (λ rs. record { x = s.x; registers = s.registers ++ rs }) (drop-nil depth)
    ∙ ap (λ rs. record { x = s.x; registers = rs }) (append-nil s.registers)

-- a node that says its own state to itself says its register of each level to itself
tells_itself : (b : Board) (h : ℕ) (lies : List State) (node : ℕ) → node < length b.states
    → h < b.depth
    → (is_in b.faulty node ≡ true
    → cut b.depth (state_of lies (place_among b.faulty node)) ≡ state_of b.states node)
    → TellsItself (sent_of b h) lies node
tells_itself b h lies node lt low own = λ liar.
    let s : State = state_of lies (place_among b.faulty node) in
    ap (λ k. register_at h (state_of lies k)) (below_is b h node (omega arith))
    ∙ (sym (get_or-take b.depth s.registers h zero_register low)
    ∙ (ap (register_at h) (own (sym (liar_is b h node lt) ∙ liar))
    ∙ sym (get_or-map (register_at h) b.states node (zero_state 0) zero_register lt)))

-- there is some group
some_group : {P : Type 0} → (groups : List Placing) → ((none : Placing) → P) → 0 < length groups → P
some_group [] f lt = absurd (omega arith)
some_group (g ∷ gs) f lt = f g

-- what holds of a value that is there holds of this one
some_holds : (P : ℕ → Type 0) (o : Option ℕ) (value : ℕ) → o ≡ Some value → IfSome o P → P value
some_holds P None value e h = absurd (cc)
some_holds P (Some a) value e h = subst P (cc) h

-- no lie moves a register of a settled group
pub settled_shut : (b : Board) (node : ℕ) (p : Placing) → Holds b node p → p.group.is_settled ≡ true
    → IsShut b node p
settled_shut b node p holds is = λ lies told is_lies is_told own_lies own_told.
    let s : Sent = sent_of b p.height in
    let g = p.group in
    let settled = holds.stands.settled is in
    let locked = some_holds _ g.locked settled.0 settled.1 holds.stands.locked in
    let own = settled.2 node holds.first holds.last in
    locked_heard s g.nums holds.stands.room.numbers g.first node lies settled.0 locked own
    ∙ sym (locked_heard s g.nums holds.stands.room.numbers g.first node told settled.0 locked own)

-- the row of a node leads it to its group
pub leads_in : (levels : List Level) (b : Board) (groups : List Placing)
    → length b.states ≡ nodes_of levels → b.depth ≡ length levels
    → map key_of groups ≡ groups_of levels 0 → All IsReady groups → AllStand b groups
    → (row : Row) (node : ℕ) → IsRow levels node row → node < nodes_of levels
    → (l : ℕ) → l < length levels → row.low ≤ l + 1 → LeadsIn b row node groups l
leads_in levels b groups size depth keys ready stand row node is_row within l lt has =
    let i : ℕ = get_or row.places.items l 0 in
    let less = place_less levels b groups size depth keys ready row node is_row within l lt has in
    let low : low_of levels node ≤ l + 1 = omega (arith, is_row.lowest, has) in
    let has_node = group_has levels 0 node l within lt low in
    let holds : (none : Placing) → Holds b node (get_or groups i none) = λ none.
    let key = key_is levels b groups size depth keys ready row node is_row within l lt has none in
    let height : (get_or groups i none).height ≡ l = ap (λ (g : Group). g.below) key
    ∙ has_node.below in
    let first = ap (λ (g : Group). g.first) key in
    let count = ap nodes_in key in
    let whole = (ready i none less).numbers.sized.whole in
    record {
      height = omega (arith, height, lt, depth);
      stands = stand i none less;
      first = omega (arith, first, has_node.first);
      last = omega (arith, first, count, whole, has_node.last);
    } in
    (less, holds)

module _ (levels : List Level) (b : Board) (groups : List Placing)
    (size : length b.states ≡ nodes_of levels) (depth : b.depth ≡ length levels)
    (keys : map key_of groups ≡ groups_of levels 0) (ready : All IsReady groups)
    (row : Row) (node : ℕ) (is_row : IsRow levels node row) (within : node < nodes_of levels)
    (liars : AreLiars (length b.states) b.faulty) (lies told : List State)
    (lies_long : length lies ≡ length b.faulty) (told_long : length told ≡ length b.faulty)
    (lies_own : is_in b.faulty node ≡ true
    → cut b.depth (state_of lies (place_among b.faulty node)) ≡ state_of b.states node)
    (told_own : is_in b.faulty node ≡ true
    → cut b.depth (state_of told (place_among b.faulty node)) ≡ state_of b.states node)
    (n from to : ℕ) (order : from ≤ to) (fits : to ≤ length b.states)
    (alike : (j : ℕ) → place_among b.faulty from ≤ j → j < place_among b.faulty to
    → state_of lies j ≡ state_of told j)
    (deep : length row.places.items ≡ length levels)
    (shut : AreShut b row node groups n)
    (inner : (l : ℕ) → l < n → l < length levels → low_of levels node ≤ l + 1
    → IsWithin (group_at levels 0 node l) from to) where
  -- the register of a level, by either of two lists of lies that agree where they must
  group_alike : (l : ℕ) → l < length levels → row.low ≤ l + 1 → (none : Placing)
      → register_by b node lies (get_or groups (get_or row.places.items l 0) none)
      ≡ register_by b node told (get_or groups (get_or row.places.items l 0) none)
  group_alike l lt has none =
      let p : Placing = get_or groups (get_or row.places.items l 0) none in
      let low : low_of levels node ≤ l + 1 = omega (arith, is_row.lowest, has) in
      let less = place_less levels b groups size depth keys ready row node is_row within l lt has in
      let key = key_is levels b groups size depth keys ready row node is_row within l lt has none in
      let height : p.height ≡ l = ap (λ (g : Group). g.below) key
      ∙ (group_has levels 0 node l within lt low).below in
      let first = ap (λ (g : Group). g.first) key in
      let count = ap nodes_in key in
      let whole = (ready (get_or row.places.items l 0) none less).numbers.sized.whole in
      let inside : node < length b.states = omega (arith, within, size) in
      let lower : p.height < b.depth = omega (arith, height, lt, depth) in
      ⊎_elim
      (λ below.
      let g = inner l below lt low in
      register_alike b p.height lies told from to order fits alike p.group.nums p.group.first node
      whole
      (omega (arith, first, g.first)) (omega (arith, first, count, whole, g.last)))
      (λ above.
      shut l none above (omega (arith, lt, deep)) has lies told
      (told_is b p.height liars lies lies_long) (told_is b p.height liars told told_long)
      (tells_itself b p.height lies node inside lower lies_own)
      (tells_itself b p.height told node inside lower told_own))
      (cases_lt l n)

  row_alike : (l : ℕ) → l < length levels
      → row_register b row node lies groups l ≡ row_register b row node told groups l
  row_alike l lt =
      let place : ℕ = get_or row.places.items l 0 in
      let by : (ls : List State) (t : Bool)
      → Reg = λ ls t. if t then get_or
      (map (register_by b node ls) groups) place zero_register else zero_register in
      ⊎_elim
      (λ less.
      let test : nat_le row.low (l + 1) ≡ false = lt-leb row.low (l + 1) less in
      ap (by lies) test ∙ sym (ap (by told) test))
      (λ has.
      let test : nat_le row.low (l + 1) ≡ true = le-leb row.low (l + 1) has in
      let less : place < length groups =
      place_less levels b groups size depth keys ready row node is_row within l lt has in
      let at : (ls : List State) (none : Placing)
      → get_or (map (register_by b node ls) groups) place zero_register
      ≡ register_by b node ls (get_or groups place none) =
      λ ls none. get_or-map (register_by b node ls) groups place none zero_register less in
      ap (by lies) test
      ∙ (some_group groups (λ none. at lies none ∙ (group_alike l lt has none ∙ sym (at told none)))
      (omega (arith, less))
      ∙ sym (ap (by told) test)))
      (cases_lt (l + 1) row.low)

  pub step_alike : (version base : ℕ)
      → let plan : Plan = record { version = version; base = base; levels = levels } in
      step_of plan node (heard_with b.faulty lies b.states)
      ≡ step_of plan node (heard_with b.faulty told b.states)
  step_alike version base =
      let plan : Plan = record { version = version; base = base; levels = levels } in
      let d : ℕ = length levels in
      let x : ℕ = if row.low == 0 then up base (state_of b.states node).x else 0 in
      let own : (ls : List State)
      → (is_in b.faulty node ≡ true
      → cut b.depth (state_of ls (place_among b.faulty node)) ≡ state_of b.states node)
      → is_in b.faulty node ≡ true
      → cut d (state_of ls (place_among b.faulty node)) ≡ state_of b.states node =
      λ ls h liar. subst (λ k. cut k (state_of ls (place_among b.faulty node))
      ≡ state_of b.states node) depth (h liar) in
      let by : (ls : List State)
      → List Reg = λ ls. map (row_register b row node ls groups) (range_with_len 0 d) in
      let of_lies = step_is levels b groups size depth keys ready row node is_row within base lies
      (own lies lies_own) version (zero_state 0) in
      let of_told = step_is levels b groups size depth keys ready row node is_row within base told
      (own told told_own) version (zero_state 0) in
      let same : by lies ≡ by told =
      same_range (row_register b row node lies groups) (row_register b row node told groups) d 0
      (λ l le lt. row_alike l (omega (arith, lt))) in
      sym (bare d (step_of plan node (heard_with b.faulty lies b.states)))
      ∙ (of_lies
      ∙ (ap (λ rs. record { x = x; registers = rs ++ drop d [] }) same
      ∙ (sym of_told
      ∙ bare d (step_of plan node (heard_with b.faulty told b.states)))))
