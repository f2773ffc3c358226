-- A text in memory.
use Rattle.std.specs.Prelude.{ℕ, List, Some}
use Rattle.texts.specs.Growth.{SinkState, plainly}

-- what was written, and how many writes failed
pub record BufferState : Type 0 where
  pub taken : List ℕ
  pub faults : ℕ

abbrev pub buffer_told : BufferState → SinkState
buffer_told buffer = plainly (Some buffer.taken) buffer.faults
