-- The step of a node of a settled configuration: each of its fields is one more, whatever it hears.
use Rattle.std.proofs.Common.{◌≡◌, ℕ, ◌+◌, ◌*◌, ◌/◌, ◌%◌, ◌<◌, ◌≤◌, Bool, true, false, cond}
use Rattle.std.proofs.Common.{if◌then◌else◌, List, [], ◌∷◌, ◌++◌, length, map, take, get_or, Option}
use Rattle.std.proofs.Common.{refl, sym, ap, ap₂, ◌∙◌, subst, ⊎_elim, arith}
use Rattle.std.specs.Prelude.{◌==◌, slice_index}
use Rattle.std.specs.List.{range_with_len}
use Rattle.std.proofs.lemmas.Bool.{cases_eq, cases_lt, lt-ltb, le-ltb, eq-eqb, ne_eqb}
use Rattle.std.proofs.lemmas.List.{get_or_append_left, get_or_push}
use Rattle.std.proofs.lemmas.List.FromFn.{fill_by_all}
use Rattle.std.proofs.lemmas.Simd.{map-map}
use Rattle.sync_types.specs.declared.states.Reg.{Reg}
use Rattle.sync_types.specs.FaultSets.{is_in}
use Rattle.sync_types.specs.States.{State, zero_state, zero_register, register_at}
use Rattle.construction.specs.Plans.{Level, Plan, nodes_of, plan_nodes, plan_depth, plan_low}
use Rattle.construction.specs.PhaseKing.{locked_at, up}
use Rattle.construction.specs.Shown.{shown}
use Rattle.construction.specs.Steps.{state_of, step_of, register_after}
use Rattle.plan_numbers.specs.Premises.{IsAccepted}
use Rattle.phase_king.specs.Groups.{values_heard}
use Rattle.phase_king.proofs.Registers.{locked_register}
use Rattle.plan_laws.specs.Stretches.{stretch, step_at}
use Rattle.plan_laws.proofs.Stretches.{steps_by_stretches}
use Rattle.state_codec.specs.Shapes.{Fields, moduli_of, moduli_from, fields_from, fields_at}
use Rattle.state_codec.specs.Shapes.{all_of, shape_of}
use Rattle.state_codec.proofs.Lows.{modulus_at, length-moduli_from, fields_of_node}
use Rattle.state_codec.proofs.Plans.{moduli_of-cons, length-moduli_of, all_of_accepted}
use Rattle.state_codec.proofs.RegisterSteps.{state_is}
use Rattle.shared_board.specs.Groups.{Group, group_at, index_at, nodes_in, register_for}
use Rattle.shared_board.proofs.ByPlace.{by_places}
use Rattle.shared_board.proofs.Descent.{group_top, group_under, step_register, step_missing}
use Rattle.shared_board.proofs.Descent.{step_number, step_numberless, length-step_at}
use Rattle.shared_board.proofs.Nested.{group_within}
use Rattle.shared_board.proofs.Places.{group_stands, group_has, index_less, length-groups_of}
use Rattle.shared_board.proofs.GroupStretches.{stretch_of_range, same_range}
use Rattle.tower.specs.Settled.{IsSettledGroup, IsSettled}
use Rattle.adversary_script.specs.Lies.{shifted_register, shifted}

-- the modulus of a node's group at a level is the one of that level
modulus_of_group : (levels : List Level) (first place l : ℕ) → l < length levels
    → (group_at levels first place l).level.modulus ≡ get_or (moduli_of levels) l 0
modulus_of_group [] first place l lt = absurd (omega arith)
modulus_of_group (level ∷ below) first place l lt =
    let n : ℕ = nodes_of below in
    let seen : get_or (moduli_of (level ∷ below)) l 0
    ≡ get_or (moduli_of below ++ level.modulus ∷ []) l 0 =
    ap (λ (ms : List ℕ). get_or ms l 0) (moduli_of-cons level below) in
    ⊎_elim
    (λ e. ap (λ (g : Group). g.level.modulus) (group_top level below first place l e)
    ∙ sym (seen ∙ get_or_push (moduli_of below) level.modulus 0 l
    (length-moduli_of below ∙ sym e)))
    (λ ne.
    let less : l < length below = omega (arith, lt, ne) in
    ap (λ (g : Group). g.level.modulus) (group_under level below first place l less)
    ∙ (modulus_of_group below (first + place / n * n) (place % n) l less
    ∙ sym (seen ∙ get_or_append_left (moduli_of below) (level.modulus ∷ []) 0 l
    (omega (arith, less, length-moduli_of below)))))
    (cases_eq l (length below))

-- a register that is locked stays so, its value by so much larger
pub shifted_locked : (by m a : ℕ) → 2 ≤ m
    → shifted_register by m (locked_at a) ≡ locked_at ((a + by) % m)
shifted_locked by m a two = ap (λ b. cond b zero_register (locked_at ((a + by) % m)))
    (ne_eqb m 0 (λ e. absurd (omega arith)))

-- What is heard of a settled configuration: of each correct node its state, and a node hears its
-- own of itself.
module _ (plan : Plan) (accepted : IsAccepted plan) (faulty : List ℕ) (config heard : List State)
    (v : ℕ) (settled : IsSettled plan faulty config) (within : v < plan_nodes plan)
    (long : length heard ≡ plan_nodes plan)
    (own : state_of heard v ≡ state_of config v)
    (honest : (u : ℕ) → u < plan_nodes plan → is_in faulty u ≡ false
    → state_of heard u ≡ state_of config u) where
  abbrev state : State
  state = state_of config v

  abbrev step : State
  step = step_at plan.base plan.levels 0 v heard

  abbrev low : ℕ
  low = plan_low plan v

  abbrev moduli : List ℕ
  moduli = moduli_of plan.levels

  -- a value as it is heard
  value_heard : (h u : ℕ) → u < plan_nodes plan → (b : Bool) → is_in faulty u ≡ b
      → (register_at h (state_of heard u)).a
      ≡ (if is_in faulty u then (register_at h (state_of heard u)).a
      else (register_at h (state_of config u)).a)
  value_heard h u lt true e =
      sym (ap (λ t. if t then (register_at h (state_of heard u)).a
      else (register_at h (state_of config u)).a) e)
  value_heard h u lt false e =
      ap (λ (s : State). (register_at h s).a) (honest u lt e)
      ∙ sym (ap (λ t. if t then (register_at h (state_of heard u)).a
      else (register_at h (state_of config u)).a) e)

  values_are : (h first n : ℕ) → first + n ≤ plan_nodes plan
      → map (λ s. (register_at h s).a) (stretch n first heard)
      ≡ values_heard first n (is_in faulty) (λ u. register_at h (state_of config u))
      (λ u. (register_at h (state_of heard u)).a)
  values_are h first n fits =
      let value : State → Option ℕ = λ s. (register_at h s).a in
      let at : 0 + first ≡ first = omega arith in
      let whole = by_places (zero_state 0) heard (plan_nodes plan) long in
      ap (λ (ss : List State). map value (stretch n first ss)) (sym whole)
      ∙ (ap (map value) (stretch_of_range (state_of heard) first 0 (plan_nodes plan) n fits)
      ∙ (map-map value (state_of heard) (range_with_len (0 + first) n)
      ∙ (ap (λ a. map (λ u. value (state_of heard u)) (range_with_len a n)) at
      ∙ same_range (λ u. value (state_of heard u))
      (λ u. if is_in faulty u then value (state_of heard u) else value (state_of config u)) n first
      (λ u from to. value_heard h u (omega (arith, to, fits)) (is_in faulty u) refl))))

  module _ (l : ℕ) (lt : l < plan_depth plan) (has : low ≤ l + 1) where
    abbrev group : Group
    group = group_at plan.levels 0 v l

    is : IsSettledGroup faulty config group
    is = subst (IsSettledGroup faulty config)
        (group_stands plan.levels 0 v l group within lt has)
        (settled (index_at plan.levels v l) group
        (omega (arith, index_less plan.levels v l within lt has, length-groups_of plan.levels 0)))

    -- its register is the next one
    register_next : register_at l step ≡ locked_at (up group.level.modulus is.value)
    register_next =
        let node = group_has plan.levels 0 v l within lt has in
        let inside = group_within plan.levels 0 v l within lt has in
        let at : 0 + v ≡ v = omega arith in
        let mine : List State = stretch (nodes_in group) group.first heard in
        let outputs : List ℕ =
        map (shown group.below) (take (group.level.blocks * group.block) mine) in
        let locked : register_at group.below (state_of heard v) ≡ locked_at is.value =
        ap (register_at group.below) own
        ∙ is.liars_too v (omega (arith, node.first)) (omega (arith, node.last)) in
        step_register plan.base plan.levels 0 v heard l within lt has
        ∙ (ap (register_for group heard) at
        ∙ (ap (λ (r : Reg). register_after group.block group.level r outputs
        (map (λ s. (register_at group.below s).a) mine)) locked
        ∙ (ap (register_after group.block group.level (locked_at is.value) outputs)
        (values_are group.below group.first (nodes_in group) (omega (arith, inside.last)))
        ∙ locked_register group.first group.block group.level (is_in faulty)
        (λ u. register_at group.below (state_of config u)) is.value is.locked
        (λ u. (register_at group.below (state_of heard u)).a) outputs)))

    -- the old one is locked
    own_locked : register_at l state ≡ locked_at is.value
    own_locked =
        let node = group_has plan.levels 0 v l within lt has in
        ap (λ h. register_at h state) (sym node.below)
        ∙ is.liars_too v (omega (arith, node.first)) (omega (arith, node.last))

    register_shifted : register_at l step
        ≡ shifted_register 1 (get_or (moduli_from low moduli) l 0) (register_at l state)
    register_shifted =
        let inside : l < length moduli = omega (arith, lt, length-moduli_of plan.levels) in
        let m : ℕ = get_or moduli l 0 in
        let two = ((all_of_accepted plan accepted).moduli l 0 inside).0 in
        let modulus : get_or (moduli_from low moduli) l 0 ≡ m =
        modulus_at low moduli l inside
        ∙ ap (λ b. cond b 0 m) (le-ltb (l + 1) low has) in
        register_next
        ∙ (ap (λ c. locked_at ((is.value + 1) % c)) (modulus_of_group plan.levels 0 v l lt)
        ∙ (sym (shifted_locked 1 m is.value two)
        ∙ ap₂ (shifted_register 1) (sym modulus) (sym own_locked)))

  register_is : (l : ℕ) → l < plan_depth plan → register_at l step
      ≡ shifted_register 1 (get_or (moduli_from low moduli) l 0) (register_at l state)
  register_is l lt = ⊎_elim
      (λ (less : l + 1 < low).
      let inside : l < length moduli = omega (arith, lt, length-moduli_of plan.levels) in
      let none : get_or (moduli_from low moduli) l 0 ≡ 0 =
      modulus_at low moduli l inside
      ∙ ap (λ b. cond b 0 (get_or moduli l 0)) (lt-ltb (l + 1) low less) in
      step_missing plan.base plan.levels 0 v heard l less
      ∙ sym (ap (λ m. shifted_register 1 m (register_at l state)) none))
      (λ has. register_shifted l lt has)
      (cases_lt (l + 1) low)

  number_is : step.x ≡ (state.x + 1) % (if low == 0 then plan.base else 1)
  number_is = ⊎_elim
      (λ (none : low < 1).
      let at : 0 + v ≡ v = omega arith in
      let zero : low ≡ 0 = omega (arith, none) in
      step_number plan.base plan.levels 0 v heard (omega (arith, none))
      ∙ (ap (λ u. up plan.base (state_of heard u).x) at
      ∙ (ap (λ (s : State). up plan.base s.x) own
      ∙ sym (ap (λ b. (state.x + 1) % (if b then plan.base else 1)) (eq-eqb low 0 zero)))))
      (λ some.
      let one : (state.x + 1) % 1 ≡ 0 = omega arith in
      step_numberless plan.base plan.levels 0 v heard (omega (arith, some))
      ∙ sym (ap (λ b. (state.x + 1) % (if b then plan.base else 1))
      (ne_eqb low 0 (λ e. absurd (omega (arith, e, some)))) ∙ one))
      (cases_lt low 1)

  pub settled_step : step_of plan v heard ≡ shifted 1 (fields_at (shape_of plan) v) state
  settled_step =
      let fields : Fields = fields_from (all_of plan) low in
      let size : length fields.moduli ≡ plan_depth plan =
      length-moduli_from low moduli ∙ length-moduli_of plan.levels in
      steps_by_stretches plan v heard within long
      ∙ (state_is step _ _ number_is
      (fill_by_all (λ i. shifted_register 1 (slice_index fields.moduli i) (register_at i state))
      step.registers (length fields.moduli) zero_register
      (length-step_at plan.base plan.levels 0 v heard ∙ sym size)
      (λ i less. register_is i (omega (arith, less, size))))
      ∙ ap (λ f. shifted 1 f state) (sym (fields_of_node plan moduli v within)))
