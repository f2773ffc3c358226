-- States of a node's fields.
use Rattle.std.specs.Prelude.{◌≡◌, ℕ, ◌<◌, List, length, slice_index, slice_index_or, not, ◌==◌}
use Rattle.sync_types.specs.States.{State, zero_register}
use Rattle.sync_types.specs.declared.states.Reg.{Reg}
use Rattle.construction.specs.Runs.{IsRegister}
use Rattle.state_codec.specs.Shapes.{Fields}

-- a finite value is below the register's modulus, and a register that is lacking is zero
abbrev pub IsField : (modulus : ℕ) → Reg → Type 0
IsField modulus register = IsRegister (not (modulus == 0)) modulus register

-- for each register
abbrev pub AreBelow : List ℕ → List Reg → Type 0
AreBelow moduli registers = (i : ℕ) → i < length moduli
    → IsField (slice_index moduli i) (slice_index_or registers i zero_register)

-- a state with a register for each modulus, its number and its finite values below their moduli,
-- and what is lacking zero
pub record InRange (fields : Fields) (state : State) : Type 0 where
  pub depth : length state.registers ≡ length fields.moduli
  pub x : state.x < fields.base
  pub values : AreBelow fields.moduli state.registers
