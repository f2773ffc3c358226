-- A level state as the program writes it.
use Rattle.std.specs.Prelude.{ℕ, ◌+◌, ◌++◌, take, drop}
use Rattle.sync_types.specs.States.{State}
use Rattle.halving_plan.specs.LevelStates.{LevelState}
use Rattle.halving_plan.specs.Registers.{registers_of}

-- a state with a level state written at a register
abbrev pub with_level_state_at : (register : ℕ) → LevelState → State → State
with_level_state_at register level_state state = record {
  x = state.x;
  registers =
      take register state.registers ++ registers_of level_state
      ++ drop (register + 2) state.registers;
}
