-- The step of a node, register by register: each is that of the node's group at the level.
use Rattle.std.proofs.Common.{◌≡◌, ℕ, ◌+◌, ◌*◌, ◌/◌, ◌%◌, ◌<◌, ◌≤◌, Bool, true, false, cond, List}
use Rattle.std.proofs.Common.{[], ◌∷◌, length, take, drop, map, refl, sym, ap, ◌∙◌, subst, ⊎_elim}
use Rattle.std.proofs.Common.{arith}
use Rattle.std.specs.Prelude.{nat_lt}
use Rattle.std.proofs.Math.Nat.{mod-lt, div-add-mod'}
use Rattle.std.proofs.lemmas.Nat.{div_below}
use Rattle.std.proofs.lemmas.Bool.{cases_eq, eq-eqb, ne_eqb, ltb-true, cond_both}
use Rattle.std.proofs.lemmas.List.{get_or_at, get_or_append_left, get_or-take, get_or-drop}
use Rattle.std.proofs.lemmas.List.{length_push, length-replicate}
use Rattle.sync_types.specs.declared.states.Reg.{Reg}
use Rattle.sync_types.specs.States.{State, zero_state, zero_register, register_at}
use Rattle.construction.specs.Plans.{Level, group_size, nodes_of, low_of}
use Rattle.construction.specs.PhaseKing.{up}
use Rattle.construction.specs.Shown.{shown}
use Rattle.construction.specs.Steps.{state_of, new_register, register_after}
use Rattle.construction.proofs.Blocks.{block_some}
use Rattle.construction.proofs.Ranges.{zero_at, low_most}
use Rattle.plan_laws.specs.Stretches.{stretch, step_at}
use Rattle.shared_board.specs.Groups.{group_at, register_for}

-- a level and those below it, and a node at a place of the group
module _ (level : Level) (below : List Level) (place : ℕ) where
  abbrev pub inner : ℕ
  inner = nodes_of below

  -- whether it stands in a block
  abbrev pub inside : Bool
  inside = nat_lt place (level.blocks * inner)

  -- a node that has the register of a level below stands in a block, and has it there
  pub record InBlock (l : ℕ) : Type 0 where
    pub test : inside ≡ true
    pub low : low_of below (place % inner) ≤ l + 1

  pub in_block : (l : ℕ) → l < length below → low_of (level ∷ below) place ≤ l + 1 → InBlock l
  in_block l lt low = by inside refl
    where
      by : (b : Bool) → inside ≡ b → InBlock l
      by true e = record {
        test = e;
        low = subst (λ m. m ≤ l + 1)
            (ap (λ b. cond b (low_of below (place % inner)) (length below + 1)) e) low;
      }
      by false e =
          let spare = ap (λ b. cond b (low_of below (place % inner)) (length below + 1)) e in
          absurd (omega (arith, spare, low, lt))

  -- the block's nodes, and the place in it
  pub some_inner : inside ≡ true → 0 < inner
  some_inner test = block_some level.blocks inner place (ltb-true place (level.blocks * inner) test)

  pub place_inner : inside ≡ true → place % inner < inner
  place_inner test = mod-lt place (some_inner test)

  pub block_below : inside ≡ true → place / inner < level.blocks
  block_below test = div_below place inner level.blocks (some_inner test)
      (ltb-true place (level.blocks * inner) test)

  pub parted : (first : ℕ) → first + place / inner * inner + place % inner ≡ first + place
  parted first = omega (arith, div-add-mod' place inner)

-- a state has a register for each level
pub length-step_at : (base : ℕ) (levels : List Level) (first place : ℕ) (heard : List State)
    → length (step_at base levels first place heard).registers ≡ length levels
length-step_at base [] first place heard = refl
length-step_at base (level ∷ below) first place heard =
    let n : ℕ = nodes_of below in
    let low : State = step_at base below (first + place / n * n) (place % n) heard in
    let lower : State = cond (inside level below place) low (zero_state (length below)) in
    let deep : length lower.registers ≡ length below =
    cond_both (inside level below place) low (zero_state (length below))
    (λ s. length s.registers ≡ length below)
    (λ e. length-step_at base below (first + place / n * n) (place % n) heard)
    (λ e. length-replicate (length below) zero_register) in
    length_push lower.registers
    (new_register (length below) n level place (stretch (group_size level n) first heard))
    ∙ (ap (λ n. n + 1) deep ∙ omega arith)

module _ (base : ℕ) (level : Level) (below : List Level) (first place : ℕ)
    (heard : List State) where
  abbrev pub low_step : State
  low_step = step_at base below (first + place / nodes_of below * nodes_of below)
      (place % nodes_of below) heard

  lower_step : State
  lower_step = cond (inside level below place)
      (step_at base below (first + place / nodes_of below * nodes_of below)
      (place % nodes_of below) heard) (zero_state (length below))

  top_register : Reg
  top_register = new_register (length below) (nodes_of below) level place
      (stretch (group_size level (nodes_of below)) first heard)

  deep : length lower_step.registers ≡ length below
  unfolding lower_step
  deep =
      cond_both (inside level below place)
      (step_at base below (first + place / nodes_of below * nodes_of below)
      (place % nodes_of below) heard) (zero_state (length below))
      (λ s. length s.registers ≡ length below)
      (λ e. length-step_at base below (first + place / nodes_of below * nodes_of below)
      (place % nodes_of below) heard)
      (λ e. length-replicate (length below) zero_register)

  -- the register of the top level
  at_top : (l : ℕ) → l ≡ length below
      → register_at l (step_at base (level ∷ below) first place heard) ≡ top_register
  unfolding lower_step top_register
  at_top l e = get_or_at lower_step.registers top_register [] zero_register l (deep ∙ sym e)

  -- a register below it
  under_top : (l : ℕ) → l < length below
      → register_at l (step_at base (level ∷ below) first place heard) ≡ register_at l lower_step
  unfolding lower_step top_register
  under_top l lt =
      get_or_append_left lower_step.registers (top_register ∷ []) zero_register l
      (omega (arith, deep, lt))

  lower_in_block : inside level below place ≡ true → lower_step ≡ low_step
  unfolding lower_step low_step
  lower_in_block e =
      ap (λ b. cond b (step_at base below (first + place / nodes_of below * nodes_of below)
      (place % nodes_of below) heard) (zero_state (length below))) e

  lower_of_spare : inside level below place ≡ false → lower_step ≡ zero_state (length below)
  unfolding lower_step
  lower_of_spare e =
      ap (λ b. cond b (step_at base below (first + place / nodes_of below * nodes_of below)
      (place % nodes_of below) heard) (zero_state (length below))) e

  -- the top register is that of the whole group
  top_is : place < group_size level (nodes_of below)
      → top_register ≡ register_for
      (record { level = level; below = length below; block = nodes_of below; first = first })
      heard (first + place)
  unfolding top_register
  top_is lt =
      let size : ℕ = group_size level (nodes_of below) in
      let mine : List State = stretch size first heard in
      let own : state_of mine place ≡ state_of heard (first + place) =
      get_or-take size (drop first heard) place (zero_state 0) lt
      ∙ get_or-drop first heard place (zero_state 0) in
      ap (λ s. register_after (nodes_of below) level (register_at (length below) s)
      (map (shown (length below)) (take (level.blocks * nodes_of below) mine))
      (map (λ s. (register_at (length below) s).a) mine)) own

-- the group of the level, at the top and below it
pub group_top : (level : Level) (below : List Level) (first place l : ℕ) → l ≡ length below
    → group_at (level ∷ below) first place l
    ≡ record { level = level; below = length below; block = nodes_of below; first = first }
group_top level below first place l e =
    ap (λ b. cond b (record {
      level = level;
      below = length below;
      block = nodes_of below;
      first =
          first;
    })
    (group_at below (first + place / nodes_of below * nodes_of below) (place % nodes_of below) l))
    (eq-eqb l (length below) e)

pub group_under : (level : Level) (below : List Level) (first place l : ℕ) → l < length below
    → group_at (level ∷ below) first place l
    ≡ group_at below (first + place / nodes_of below * nodes_of below)
    (place % nodes_of below) l
group_under level below first place l lt =
    ap (λ b. cond b (record {
      level = level;
      below = length below;
      block = nodes_of below;
      first =
          first;
    })
    (group_at below (first + place / nodes_of below * nodes_of below) (place % nodes_of below) l))
    (ne_eqb l (length below) (λ (e : l ≡ length below). omega arith))

-- a register that the node has is that of its group
pub step_register : (base : ℕ) (levels : List Level) (first place : ℕ) (heard : List State) (l : ℕ)
    → place < nodes_of levels → l < length levels → low_of levels place ≤ l + 1
    → register_at l (step_at base levels first place heard)
    ≡ register_for (group_at levels first place l) heard (first + place)
step_register base [] first place heard l within lt low = absurd (omega arith)
step_register base (level ∷ below) first place heard l within lt low =
    let again : (b : InBlock level below place l) → l < length below →
    register_at l (low_step base level below first place heard)
    ≡ register_for (group_at below (first + place / nodes_of below * nodes_of below)
    (place % nodes_of below) l) heard
    (first + place / nodes_of below * nodes_of below + place % nodes_of below) =
    λ b less. step_register base below (first + place / nodes_of below * nodes_of below)
    (place % nodes_of below) heard l (place_inner level below place b.test) less b.low in
    ⊎_elim
    (λ e. at_top base level below first place heard l e
    ∙ (top_is base level below first place heard within
    ∙ sym (ap (λ g. register_for g heard (first + place)) (group_top level below first place l e))))
    (λ ne.
    let less : l < length below = omega (arith, lt, ne) in
    let b = in_block level below place l less low in
    under_top base level below first place heard l less
    ∙ (ap (register_at l) (lower_in_block base level below first place heard b.test)
    ∙ (again b less
    ∙ (ap (register_for (group_at below (first + place / nodes_of below * nodes_of below)
    (place % nodes_of below) l) heard) (parted level below place first)
    ∙ sym (ap (λ g. register_for g heard (first + place))
    (group_under level below first place l less))))))
    (cases_eq l (length below))

-- one that it lacks is zero
pub step_missing : (base : ℕ) (levels : List Level) (first place : ℕ) (heard : List State) (l : ℕ)
    → l + 1 < low_of levels place
    → register_at l (step_at base levels first place heard) ≡ zero_register
step_missing base [] first place heard l low = absurd (omega arith)
step_missing base (level ∷ below) first place heard l low =
    by (inside level below place) refl
    (λ missing. step_missing base below (first + place / nodes_of below * nodes_of below)
    (place % nodes_of below) heard l missing)
  where
    low_is : (b : Bool) → inside level below place ≡ b → low_of (level ∷ below) place
        ≡ cond b (low_of below (place % nodes_of below)) (length below + 1)
    low_is b e = ap (λ b. cond b (low_of below (place % nodes_of below)) (length below + 1)) e

    by : (b : Bool) → inside level below place ≡ b
        → (l + 1 < low_of below (place % nodes_of below)
        → register_at l (low_step base level below first place heard) ≡ zero_register)
        → register_at l (step_at base (level ∷ below) first place heard) ≡ zero_register
    by true e again =
        let less : l < length below =
        omega (arith, low_is true e, low, low_most below (place % nodes_of below)) in
        under_top base level below first place heard l less
        ∙ (ap (register_at l) (lower_in_block base level below first place heard e)
        ∙ again (omega (arith, low_is true e, low)))
    by false e again =
        let less : l < length below = omega (arith, low_is false e, low) in
        under_top base level below first place heard l less
        ∙ (ap (register_at l) (lower_of_spare base level below first place heard e)
        ∙ zero_at (length below) l)

-- the number that a node has goes to the next one
pub step_number : (base : ℕ) (levels : List Level) (first place : ℕ) (heard : List State)
    → low_of levels place ≤ 0
    → (step_at base levels first place heard).x ≡ up base (state_of heard (first + place)).x
step_number base [] first place heard low = refl
step_number base (level ∷ below) first place heard low =
    by (inside level below place) refl
    (λ has. step_number base below (first + place / nodes_of below * nodes_of below)
    (place % nodes_of below) heard has)
  where
    low_is : (b : Bool) → inside level below place ≡ b → low_of (level ∷ below) place
        ≡ cond b (low_of below (place % nodes_of below)) (length below + 1)
    low_is b e = ap (λ b. cond b (low_of below (place % nodes_of below)) (length below + 1)) e

    by : (b : Bool) → inside level below place ≡ b
        → (low_of below (place % nodes_of below) ≤ 0
        → (low_step base level below first place heard).x
        ≡ up base (state_of heard
        (first + place / nodes_of below * nodes_of below + place % nodes_of below)).x)
        → (step_at base (level ∷ below) first place heard).x
        ≡ up base (state_of heard (first + place)).x
    by true e again =
        ap (λ b. (cond b (low_step base level below first place heard)
        (zero_state (length below))).x) e
        ∙ (again (omega (arith, low_is true e, low))
        ∙ ap (λ u. up base (state_of heard u).x) (parted level below place first))
    by false e again = absurd (omega (arith, low_is false e, low))

-- one that it lacks is zero
pub step_numberless : (base : ℕ) (levels : List Level) (first place : ℕ) (heard : List State)
    → 0 < low_of levels place → (step_at base levels first place heard).x ≡ 0
step_numberless base [] first place heard low = absurd (omega arith)
step_numberless base (level ∷ below) first place heard low =
    by (inside level below place) refl
    (λ lacks. step_numberless base below (first + place / nodes_of below * nodes_of below)
    (place % nodes_of below) heard lacks)
  where
    by : (b : Bool) → inside level below place ≡ b
        → (0 < low_of below (place % nodes_of below)
        → (low_step base level below first place heard).x ≡ 0)
        → (step_at base (level ∷ below) first place heard).x ≡ 0
    by true e again =
        let low_is = ap (λ b. cond b (low_of below (place % nodes_of below)) (length below + 1))
        e in
        ap (λ b. (cond b (low_step base level below first place heard)
        (zero_state (length below))).x) e
        ∙ again (omega (arith, low_is, low))
    by false e again =
        ap (λ b. (cond b (low_step base level below first place heard)
        (zero_state (length below))).x) e
