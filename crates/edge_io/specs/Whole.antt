-- Calls that can count no fault.
use Rattle.std.specs.Prelude.{◌≡◌, ℕ, ◌+◌, ◌≤◌, List, [], length, Result, IsOk}
use Rattle.texts.specs.Causes.{HasCause}
use Rattle.texts.specs.Growth.{SinkState, Puts}
use Rattle.edge_io.specs.Memory.{MemSinkState, memory_told}

-- a call that writes a text to a sink in memory answers Ok, if no call is to fail and there is room
-- for the text
abbrev pub TakenInMemory : Type 0 → Type 0 → Type 0
TakenInMemory T E = (sink : MemSinkState) (new : SinkState) (text : List ℕ) (result : Result T E)
    → sink.fails ≡ [] → length sink.taken + length text ≤ sink.room
    → Puts result text (memory_told sink) new → IsOk result

-- a call that writes a text answers Ok, if the count of faults is always 0
abbrev pub TakenWithoutFaults : Type 0 → Type 0 → Type 0
TakenWithoutFaults T E = (old new : SinkState) (text : List ℕ) (result : Result T E)
    → old.faults ≡ 0
    → new.faults ≡ 0 → Puts result text old new → IsOk result

-- a call that fails only if it counted a fault answers Ok, if the count is always 0
abbrev pub ReadWithoutFaults : Type 0 → Type 0 → Type 0
ReadWithoutFaults T E = (result : Result T E) → HasCause 0 0 result → IsOk result
