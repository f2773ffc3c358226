-- Level states as registers, and back.
use Rattle.std.proofs.Common.{◌≡◌, ℕ, ◌≤◌, List, [], ◌∷◌, ◌++◌, length, get_or, drop, Option, Some}
use Rattle.std.proofs.Common.{None, is_some, unwrap_or, IsTrue, refl, sym, ap, ◌∙◌, arith}
use Rattle.std.proofs.lemmas.Bool.{false≢true}
use Rattle.sync_types.specs.declared.states.Reg.{Reg}
use Rattle.sync_types.specs.States.{State, zero_register, register_at}
use Rattle.halving_plan.specs.LevelStates.{LevelState}
use Rattle.halving_plan.specs.Registers.{HasLevelState, level_state_of, inner, with_level_state}

-- a state followed by further registers
abbrev pub followed : State → List Reg → State
followed state further = record { x = state.x; registers = state.registers ++ further }

-- the level state that was written is read back, whatever state comes after it
pub level_state_back : (level_state : LevelState) (state : State) (further : List Reg)
    → level_state_of (followed (with_level_state level_state state) further) ≡ level_state
level_state_back level_state state further = refl

-- and the state after it is that in the half
pub inner_back : (level_state : LevelState) (state : State) (further : List Reg)
    → inner (followed (with_level_state level_state state) further) ≡ followed state further
inner_back level_state state further = refl

two_first : (registers : List Reg) → 2 ≤ length registers
    → registers
    ≡ get_or registers 0 zero_register ∷ get_or registers 1 zero_register ∷ drop 2 registers
two_first [] two = absurd (omega arith)
two_first (a ∷ []) two = absurd (omega arith)
two_first (a ∷ b ∷ registers) two = refl

finite_back : (a : Option ℕ) → IsTrue (is_some a) → Some (unwrap_or a 0) ≡ a
finite_back (Some a) some = refl
finite_back None some = absurd (false≢true some)

-- what was read is written back, as it was
pub state_back : (state : State) → HasLevelState state
    → with_level_state (level_state_of state) (inner state) ≡ state
state_back state is =
    ap (λ (a : Option ℕ). record {
      x = state.x;
      registers =
          register_at 0 state ∷ record { a = a; d = (register_at 1 state).d }
          ∷ drop 2 state.registers;
    }) (finite_back (register_at 1 state).a is.seen)
    ∙ ap (λ (registers : List Reg). record { x = state.x; registers = registers })
    (sym (two_first state.registers is.two))
