-- A node's state is a number and a list of registers, the lowest level first.
use Rattle.std.specs.Prelude.{ℕ, List, replicate, Some, false, slice_index_or}
use Rattle.sync_types.specs.declared.states.Reg.{Reg}

pub record State : Type 0 where
  pub x : ℕ
  pub registers : List Reg

-- the value 0, not marked
abbrev pub zero_register : Reg
zero_register = record { a = Some 0; d = false }

-- the number 0, and so many zero registers
abbrev pub zero_state : ℕ → State
zero_state depth = record { x = 0; registers = replicate depth zero_register }

-- register i, the lowest being 0
abbrev pub register_at : ℕ → State → Reg
register_at i s = slice_index_or s.registers i zero_register
