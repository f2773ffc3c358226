-- How a line is turned: its text is put after what stands in a list.
use Rattle.std.specs.Prelude.{◌≡◌, ℕ, List, ◌++◌, Result, Ok, Err}
use Rattle.states.specs.declared.faults.Fault.{Fault}
use Rattle.states.specs.declared.faults.TurnError.{TurnError}
use Rattle.states.specs.declared.faults.TurnError.TheVariants as error

-- a text after another one, if it is no refusal
abbrev pub put_after : (old : List ℕ) → {R : Type 0} → Result (List ℕ) R → Result (List ℕ) R
put_after old (Ok text) = Ok (old ++ text)
put_after old (Err why) = Err why

-- The text was put after the old one; or it is this refusal; or memory was refused.
abbrev pub PutsTurned : {T : Type 0} → (turned : Result (List ℕ) Fault) → Result T TurnError
    → (old new : List ℕ) → Type 0
PutsTurned turned (Ok value) old new = put_after old turned ≡ Ok new
PutsTurned turned (Err (error.Refused why)) old new = turned ≡ Err why
PutsTurned turned (Err error.NoMemory) old new = Unit {0}
