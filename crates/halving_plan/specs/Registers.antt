-- A node's state in a group of two halves. It has two registers for the group's level, and after
-- them those of the half in which the node is.
use Rattle.std.specs.Prelude.{◌≤◌, List, [], ◌∷◌, ◌++◌, length, drop, Some, is_some}
use Rattle.std.specs.Prelude.{unwrap_or, IsTrue}
use Rattle.sync_types.specs.declared.states.Reg.{Reg}
use Rattle.sync_types.specs.States.{State, register_at}
use Rattle.halving_plan.specs.LevelStates.{LevelState}

-- The two registers of a level state: that of the phase king, and what was seen of the left half,
-- with trust as its mark.
abbrev pub registers_of : LevelState → List Reg
registers_of level_state =
    level_state.register ∷ record { a = Some level_state.seen; d = level_state.trusted } ∷ []

-- the level state that the first two registers of a state give; infinity was seen as 0
abbrev pub level_state_of : State → LevelState
level_state_of state = record {
  register = register_at 0 state;
  seen = unwrap_or (register_at 1 state).a 0;
  trusted = (register_at 1 state).d;
}

-- a state that has a level state: two registers at least, of which the second one is finite
pub record HasLevelState (state : State) : Type 0 where
  pub two : 2 ≤ length state.registers
  pub seen : IsTrue (is_some (register_at 1 state).a)

-- the state in the half
abbrev pub inner : State → State
inner state = record { x = state.x; registers = drop 2 state.registers }

-- a state in the half, with a level state before it
abbrev pub with_level_state : LevelState → State → State
with_level_state level_state state =
    record { x = state.x; registers = registers_of level_state ++ state.registers }
