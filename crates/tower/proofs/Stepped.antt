-- The step of a node by the rows and groups of a shared round.
use Rattle.std.proofs.Common.{◌≡◌, ℕ, ◌+◌, ◌*◌, ◌/◌, ◌%◌, ◌<◌, ◌≤◌, Bool, true, false}
use Rattle.std.proofs.Common.{if◌then◌else◌, List, [], ◌∷◌, ◌++◌, length, map, drop, get_or, All}
use Rattle.std.proofs.Common.{IfSome, refl, sym, ap, ◌∙◌, subst, ⊎_elim, arith}
use Rattle.std.specs.Prelude.{nat_le, ◌==◌}
use Rattle.std.specs.List.{range_with_len}
use Rattle.std.proofs.lemmas.Bool.{cases_lt, cases_eq, le-leb, lt-leb, eq-eqb, ne_eqb}
use Rattle.std.proofs.lemmas.List.{get_or-map, ext_get_or, length-map, get_or-take}
use Rattle.std.proofs.lemmas.List.FromFn.{get_or-map-range_with_len, length-map-range_with_len}
use Rattle.sync_types.specs.declared.states.Reg.{Reg}
use Rattle.sync_types.specs.FaultSets.{is_in}
use Rattle.sync_types.specs.States.{State, zero_state, zero_register, register_at}
use Rattle.construction.specs.Plans.{Level, Plan, nodes_of, low_of}
use Rattle.construction.specs.PhaseKing.{up}
use Rattle.construction.specs.Steps.{state_of, step_of}
use Rattle.counter_core.specs.Meanings.{cut, written}
use Rattle.plan_laws.specs.PlanMeaning.{InRange, IsWithin}
use Rattle.plan_laws.specs.Stretches.{step_at}
use Rattle.plan_laws.proofs.Stretches.{steps_by_stretches}
use Rattle.shared_board.specs.Sharing.{place_among, heard_at, heard_with}
use Rattle.shared_board.specs.Groups.{Group, groups_of, group_at, index_at, nodes_in, register_for}
use Rattle.shared_board.proofs.Descent.{step_register, step_missing, step_number, step_numberless}
use Rattle.shared_board.proofs.Descent.{length-step_at, group_top, group_under}
use Rattle.shared_board.proofs.Places.{group_stands, group_has, index_less, length-groups_of}
use Rattle.shared_board.proofs.Places.{groups_within, groups_low as levels_low}
use Rattle.shared_board.specs.Boards.{Board}
use Rattle.shared_board.proofs.RegistersHeard.{register_is}
use Rattle.tower.specs.Placings.{Placing}
use Rattle.tower.specs.declared.rows.Row.{Row}
use Rattle.tower.specs.Rows.{IsRow}
use Rattle.tower.specs.Placings.{key_of, IsReady, register_by, row_register, CanStep}
use Rattle.tower.specs.Sharing.{AllStand}

-- a state in range has at each level a value below the modulus of the group's level
pub range_at : (levels : List Level) (first place l : ℕ) (s : State) → l < length levels
    → InRange levels s → IfSome (register_at l s).a
    (λ a. a < (group_at levels first place l).level.modulus)
range_at [] first place l s lt range = absurd (omega arith)
range_at (level ∷ below) first place l s lt range =
    let n : ℕ = nodes_of below in
    let again : l < length below
    → IfSome (register_at l s).a
    (λ a. a < (group_at below (first + place / n * n) (place % n) l).level.modulus) =
    λ less. range_at below (first + place / n * n) (place % n) l s less range.0 in
    ⊎_elim
    (λ e. subst (λ (g : Group). IfSome (register_at l s).a (λ a. a < g.level.modulus))
    (sym (group_top level below first place l e))
    (subst (λ k. IfSome (register_at k s).a (λ a. a < level.modulus)) (sym e) range.1))
    (λ ne.
    let less : l < length below = omega (arith, lt, ne) in
    subst (λ (g : Group). IfSome (register_at l s).a (λ a. a < g.level.modulus))
    (sym (group_under level below first place l less)) (again less))
    (cases_eq l (length below))

module _ (levels : List Level) (b : Board) (groups : List Placing)
    (size : length b.states ≡ nodes_of levels) (depth : b.depth ≡ length levels)
    (keys : map key_of groups ≡ groups_of levels 0) (ready : All IsReady groups) where
  groups_long : length groups ≡ length (groups_of levels 0)
  groups_long = sym (length-map groups key_of) ∙ ap length keys

  -- the key of a group by its place
  key_at : (i : ℕ) (none : Placing) → i < length groups
      → key_of (get_or groups i none) ≡ get_or (groups_of levels 0) i (key_of none)
  key_at i none lt = sym (get_or-map key_of groups i none (key_of none) lt)
      ∙ ap (λ ks. get_or ks i (key_of none)) keys

  -- all groups are of nodes of the board
  pub groups_fit : All (λ p. p.group.first + p.group.nums.nodes ≤ length b.states) groups
  groups_fit = λ i none lt.
      let p : Placing = get_or groups i none in
      let key = key_at i none lt in
      let first = ap (λ (g : Group). g.first) key in
      let count = ap nodes_in key in
      let whole = (ready i none lt).numbers.sized.whole in
      let fits = groups_within levels 0 i (key_of none) (omega (arith, lt, groups_long)) in
      omega (arith, first, count, whole, fits, size)

  pub groups_low : All (λ p. p.height < b.depth) groups
  groups_low = λ i none lt.
      let key = ap (λ (g : Group). g.below) (key_at i none lt) in
      omega (
        arith,
        key,
        levels_low levels 0 i (key_of none)
            (omega (arith, lt, groups_long)),
        depth,
      )

  module _ (row : Row) (node : ℕ) (is_row : IsRow levels node row)
      (within : node < nodes_of levels) where
    place_is : (l : ℕ) → l < length levels → get_or row.places.items l 0 ≡ index_at levels node l
    place_is l lt =
        ap (λ xs. get_or xs l 0) is_row.indices
        ∙ get_or-map-range_with_len (index_at levels node) 0 (length levels) l l 0 lt (omega arith)

    module _ (l : ℕ) (lt : l < length levels) (has : row.low ≤ l + 1) where
      low : low_of levels node ≤ l + 1
      low = omega (arith, is_row.lowest, has)

      pub place_less : get_or row.places.items l 0 < length groups
      place_less =
          omega (
            arith,
            place_is l lt,
            index_less levels node l within lt low,
            groups_long,
            length-groups_of levels 0,
          )

      -- the group to which the row leads is the node's
      pub key_is : (none : Placing)
          → key_of (get_or groups (get_or row.places.items l 0) none) ≡ group_at levels 0 node l
      key_is none =
          key_at (get_or row.places.items l 0) none place_less
          ∙ (ap (λ i. get_or (groups_of levels 0) i (key_of none)) (place_is l lt)
          ∙ group_stands levels 0 node l (key_of none) within lt low)

      -- there the node can step
      module _ (lies : List State) (base : ℕ) (stand : AllStand b groups)
          (range : All (IsWithin base levels) b.states) (long : length lies ≡ length b.faulty)
          (lies_range : All (IsWithin base levels) lies)
          (lies_deep : All (λ s. length levels ≤ length s.registers) lies) where
        pub can_step : (none : Placing)
            → CanStep b node lies (get_or groups (get_or row.places.items l 0) none)
        can_step none =
            let i : ℕ = get_or row.places.items l 0 in
            let p : Placing = get_or groups i none in
            let key = key_is none in
            let has_node = group_has levels 0 node l within lt low in
            let height : p.height ≡ l = ap (λ (g : Group). g.below) key ∙ has_node.below in
            let first = ap (λ (g : Group). g.first) key in
            let count = ap nodes_in key in
            let modulus : (group_at levels 0 node l).level.modulus ≡ p.group.nums.modulus =
            sym (ap (λ (g : Group). g.level.modulus) key) in
            let whole = (ready i none place_less).numbers.sized.whole in
            let in_range : (s : State) → IsWithin base levels s
            → IfSome (register_at p.height s).a (λ a. a < p.group.nums.modulus) =
            λ s h. subst (λ k. IfSome (register_at k s).a (λ a. a < p.group.nums.modulus))
            (sym height)
            (subst (λ m. IfSome (register_at l s).a (λ a. a < m)) modulus
            (range_at levels 0 node l s lt h.values)) in
            record {
              height = omega (arith, height, lt, depth);
              stands = stand i none place_less;
              first = omega (arith, first, has_node.first);
              last = omega (arith, first, count, whole, has_node.last);
              within = groups_fit i none place_less;
              below = λ k d less.
                  let inside : k < length b.states =
                  omega (arith, less, length-map b.states (register_at p.height)) in
                  subst (λ (r : Reg). IfSome r.a (λ a. a < p.group.nums.modulus))
                  (sym (get_or-map (register_at p.height) b.states k (zero_state 0) d inside))
                  (in_range (state_of b.states k) (range k (zero_state 0) inside));
              told = long;
              lies_below = λ k d less. (
                omega (arith, lies_deep k d less, height, lt),
                in_range (get_or lies k d)
                    (lies_range k d less),
              );
              few_blocks = (ready i none place_less).numbers.sized.most_blocks;
            }

    -- ---- the step

    module _ (base : ℕ) (lies : List State)
        (own : is_in b.faulty node ≡ true
        → cut (length levels) (state_of lies (place_among b.faulty node))
        ≡ state_of b.states node) where
      heard : List State
      heard = heard_with b.faulty lies b.states

      own_register : (l : ℕ) → l < length levels → is_in b.faulty node ≡ true
          → register_at l (state_of lies (place_among b.faulty node))
          ≡ register_at l (state_of b.states node)
      own_register l lt liar =
          let s : State = state_of lies (place_among b.faulty node) in
          sym (get_or-take (length levels) s.registers l zero_register lt)
          ∙ ap (register_at l) (own liar)

      register_step : (l : ℕ) → l < length levels
          → register_at l (step_at base levels 0 node heard) ≡ row_register b row node lies groups l
      unfolding heard
      register_step l lt = ⊎_elim
          (λ less.
          let missing = step_missing base levels 0 node (heard_with b.faulty lies b.states) l
          (omega (arith, less, is_row.lowest)) in
          let test : nat_le row.low (l + 1) ≡ false = lt-leb row.low (l + 1) less in
          missing ∙ sym (ap (λ t. if t then get_or (map (register_by b node lies) groups)
          (get_or row.places.items l 0) zero_register else zero_register) test))
          (λ has.
          let test : nat_le row.low (l + 1) ≡ true = le-leb row.low (l + 1) has in
          let place : ℕ = get_or row.places.items l 0 in
          let of_group : (none : Placing)
          → register_at l (step_at base levels 0 node (heard_with b.faulty lies b.states))
          ≡ get_or (map (register_by b node lies) groups) place zero_register = λ none.
          let p : Placing = get_or groups place none in
          let key = key_is l lt has none in
          let fits = groups_fit place none (place_less l lt has) in
          let height : p.height ≡ l = ap (λ (g : Group). g.below) key
          ∙ (group_has levels 0 node l within lt (low l lt has)).below in
          let inside : node < length b.states = omega (arith, within, size) in
          step_register base levels 0 node (heard_with b.faulty lies b.states) l within lt
          (low l lt has)
          ∙ (ap (register_for (group_at levels 0 node l) (heard_with b.faulty lies b.states))
          (omega arith)
          ∙ (ap (λ g. register_for g (heard_with b.faulty lies b.states) node) (sym key)
          ∙ (sym (register_is b p.height lies p.group.nums p.group.first node
          (ready place none (place_less l lt has)).numbers.sized.whole fits inside
          (λ liar. subst (λ k. register_at k (state_of lies (place_among b.faulty node))
          ≡ register_at k (state_of b.states node)) (sym height) (own_register l lt liar)))
          ∙ sym (get_or-map (register_by b node lies) groups place none zero_register
          (place_less l lt has))))) in
          some_group (λ none. of_group none) (place_less l lt has)
          ∙ sym (ap (λ t. if t then get_or
          (map (register_by b node lies) groups) place zero_register else zero_register) test))
          (cases_lt (l + 1) row.low)
        where
          -- there is some group
          some_group : {P : Type 0} → ((none : Placing) → P) → {i : ℕ} → i < length groups → P
          some_group {P} f {i} less = by groups less
            where
              by : (gs : List Placing) → i < length gs → P
              by [] lt = absurd (omega arith)
              by (g ∷ gs) lt = f g

      -- the number that a node has after its step
      number_step : (step_at base levels 0 node heard).x
          ≡ (if row.low == 0 then up base (state_of b.states node).x else 0)
      unfolding heard
      number_step = ⊎_elim
          (λ e.
          let test : (row.low == 0) ≡ true = eq-eqb row.low 0 e in
          step_number base levels 0 node (heard_with b.faulty lies b.states)
          (omega (arith, e, is_row.lowest))
          ∙ (ap (λ u. up base (state_of (heard_with b.faulty lies b.states) u).x) (omega arith)
          ∙ (ap (λ (s : State). up base s.x)
          (get_or-map-range_with_len (heard_at b.faulty lies b.states) 0
          (length b.states) node node (zero_state 0) (omega (arith, within, size))
          (omega arith))
          ∙ (own_number (is_in b.faulty node) refl
          ∙ sym (ap (λ t. if t then up base (state_of b.states node).x else 0) test)))))
          (λ ne.
          let test : (row.low == 0) ≡ false = ne_eqb row.low 0 ne in
          step_numberless base levels 0 node (heard_with b.faulty lies b.states)
          (omega (arith, ne, is_row.lowest))
          ∙ sym (ap (λ t. if t then up base (state_of b.states node).x else 0) test))
          (cases_eq row.low 0)
        where
          own_number : (t : Bool) → is_in b.faulty node ≡ t
              → up base (heard_at b.faulty lies b.states node).x
              ≡ up base (state_of b.states node).x
          own_number true e =
              ap (λ t. up base (if t then state_of lies
              (place_among b.faulty node) else state_of b.states node).x) e
              ∙ ap (λ (s : State). up base s.x) (own e)
          own_number false e =
              ap (λ t. up base (if t then state_of lies
              (place_among b.faulty node) else state_of b.states node).x) e

      pub step_is : (version : ℕ) (out : State)
          → written (length levels)
          (step_of (record { version = version; base = base; levels = levels }) node
          (heard_with b.faulty lies b.states)) out
          ≡ record {
            x = if row.low == 0 then up base (state_of b.states node).x else 0;
            registers = map (row_register b row node lies groups)
                (range_with_len 0 (length levels)) ++ drop (length levels) out.registers;
          }
      unfolding heard
      step_is version out =
          let plan : Plan = record { version = version; base = base; levels = levels } in
          let heard : List State = heard_with b.faulty lies b.states in
          let s : State = step_at base levels 0 node heard in
          let stretches = steps_by_stretches plan node heard within
          (length-map-range_with_len (heard_at b.faulty lies b.states) 0 (length b.states)
          ∙ size) in
          let registers : s.registers
          ≡ map (row_register b row node lies groups) (range_with_len 0 (length levels)) =
          ext_get_or zero_register s.registers
          (map (row_register b row node lies groups) (range_with_len 0 (length levels)))
          (length-step_at base levels 0 node heard
          ∙ sym (length-map-range_with_len (row_register b row node lies groups) 0
          (length levels)))
          (λ l less.
          let lt : l < length levels =
          omega (arith, less, length-step_at base levels 0 node heard) in
          register_step l lt ∙ sym
          (get_or-map-range_with_len (row_register b row node lies groups) 0
          (length levels) l l zero_register lt (omega arith))) in
          ap (λ s. written (length levels) s out) stretches
          ∙ (ap (λ x. record {
            x = x;
            registers =
                s.registers ++ drop (length levels) out.registers;
          }) number_step
          ∙ ap (λ rs. record {
            x = if row.low == 0 then up base (state_of b.states node).x else 0;
            registers = rs ++ drop (length levels) out.registers;
          }) registers)
