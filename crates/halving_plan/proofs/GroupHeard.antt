-- What is heard of a group, as it is read from the registers of all states.
use Rattle.std.proofs.Common.{◌≡◌, ℕ, zero, suc, ◌+◌, ◌-◌, ◌%◌, ◌<◌, List, Bool, Option}
use Rattle.std.proofs.Common.{count_by}
use Rattle.std.proofs.Common.{nat_eq, nat_le, unwrap_or, refl, sym, ap, ap₂, ◌∙◌, arith}
use Rattle.std.proofs.lemmas.List.{get_or-drop}
use Rattle.sync_types.specs.declared.states.Reg.{Reg}
use Rattle.sync_types.specs.States.{State, register_at, zero_register}
use Rattle.construction.specs.PhaseKing.{instructed, up}
use Rattle.construction.specs.Steps.{state_of}
use Rattle.halving_plan.specs.LevelStates.{LevelState, shown, saw, trusts, follows_left}
use Rattle.halving_plan.specs.LevelStates.{instruction_of, king_of, values_of}
use Rattle.halving_plan.specs.Trees.{tree_for}
use Rattle.halving_plan.specs.Steps.{shown_in}
use Rattle.halving_plan.specs.Groups.{HalvingGroup, left_of, right_of, sizes_of}
use Rattle.halving_plan.specs.GroupStates.{below, section}
use Rattle.halving_plan.specs.GroupHearing.{values_in, outputs_in, level_states_in}
use Rattle.halving_plan.specs.GroupHearing.{level_state_in}
use Rattle.halving_plan.specs.GroupHearing.{level_state_heard}
use Rattle.halving_plan.proofs.Lists.{map_map, map_same, count_by-map, count_same}
use Rattle.halving_plan.proofs.Numbers.{both_parts}

-- a register of a state in a group
pub register_below : (r i : ℕ) (s : State) → register_at i (below r s) ≡ register_at (r + i) s
register_below r i s = get_or-drop r s.registers i zero_register

pub first_below : (r : ℕ) (s : State) → register_at 0 (below r s) ≡ register_at r s
first_below r s = register_below r 0 s ∙ ap (λ k. register_at k s) (omega arith)

-- in a group with halves the first register shows
shown_first : (f spares : ℕ) (s : State) → 0 < f
    → shown_in (tree_for f spares) s ≡ unwrap_or (register_at 0 s).a 0
shown_first zero spares s some = absurd (omega arith)
shown_first (suc f) spares s some = refl

-- who saw this
pub saw_is : (group : HalvingGroup) (seen : ℕ) (heard : List State)
    → count_by (λ s. nat_eq seen (unwrap_or (register_at (group.register + 1) s).a 0))
    (section group.first group.nodes heard)
    ≡ saw seen (level_states_in group heard)
saw_is group seen heard =
    let all = section group.first group.nodes heard in
    sym (count_by-map (λ (p : LevelState). nat_eq seen p.seen) (level_state_in group) all
    ∙ count_same (λ s. nat_eq seen (level_state_in group s).seen)
    (λ s. nat_eq seen (unwrap_or (register_at (group.register + 1) s).a 0))
    (λ s. ap (λ (q : Reg). nat_eq seen (unwrap_or q.a 0)) (register_below group.register 1 s)) all)

-- the values are those of the level states
pub values_are : (group : HalvingGroup) (heard : List State)
    → values_in group heard ≡ values_of (level_states_in group heard)
values_are group heard =
    let all = section group.first group.nodes heard in
    sym (map_map (λ (p : LevelState). p.register.a) (level_state_in group) all
    ∙ map_same (λ s. (level_state_in group s).register.a) (λ s. (register_at group.register s).a)
    (λ s. ap (λ (q : Reg). q.a) (first_below group.register s)) all)

-- what the level state after a round is made of
abbrev pub level_state_with : HalvingGroup → (own : LevelState) (left right : ℕ) (backed : Bool)
    (values : List (Option ℕ)) → LevelState
level_state_with group own left right backed values =
    let halves = sizes_of group in
    let follows = follows_left halves own backed in
    let instruction = instruction_of halves follows own.seen right in record {
      register = instructed group.nodes group.faults (up group.modulus) (instruction % 3)
          own.register values (king_of halves follows instruction);
      seen = left;
      trusted = trusts own left backed;
    }

-- the level state that was made is the one by all that is heard
pub level_state_is : (group : HalvingGroup) (v : ℕ) (heard : List State) (own : LevelState)
    (left right : ℕ) (is_backed : Bool)
    → 0 < group.faults → own ≡ level_state_in group (state_of heard v)
    → left ≡ shown (left_of group).modulus (outputs_in (left_of group) heard)
    → right ≡ shown (right_of group).modulus (outputs_in (right_of group) heard)
    → is_backed ≡ nat_le (group.nodes - group.faults) (saw own.seen (level_states_in group heard))
    → level_state_with group own left right is_backed (values_in group heard)
    ≡ level_state_heard group v heard
level_state_is group v heard own left right is_backed some o l r b =
    let states = level_states_in group heard in
    let true_left = shown (left_of group).modulus (outputs_in (left_of group) heard) in
    let true_right = shown (right_of group).modulus (outputs_in (right_of group) heard) in
    let step : (own : LevelState) (f : ℕ) → LevelState = λ own f.
    let halves = sizes_of group in
    let backed = nat_le (group.nodes - f) (saw own.seen states) in
    let follows = follows_left halves own backed in
    let instruction = instruction_of halves follows own.seen true_right in record {
      register = instructed group.nodes f (up group.modulus) (instruction % 3)
          own.register (values_of states) (king_of halves follows instruction);
      seen = true_left;
      trusted = trusts own true_left backed;
    } in
    ap₂ (λ x y. level_state_with group own x y is_backed (values_in group heard)) l r
    ∙ (ap₂ (level_state_with group own true_left true_right) b (values_are group heard)
    ∙ (ap (λ p. step p group.faults) o
    ∙ ap (step (level_state_in group (state_of heard v))) (sym (both_parts group.faults some))))
