-- What `states` did to its source and its sink for what its words ask for.
use Rattle.std.specs.Prelude.{ℕ, List, Option, Result}
use Rattle.texts.specs.Growth.{SinkState}
use Rattle.program_words.specs.Asked.{asked_by}
use Rattle.program_words.specs.Conduct as program
use Rattle.program_words.specs.Conduct.{Answers, DoesWhole}
use Rattle.program_words.specs.declared.asked.Asked.{Asked}
use Rattle.program_words.specs.declared.errors.ProgramError.{ProgramError}
use Rattle.states.specs.HelpText.{help_text, version_text}
use Rattle.states.specs.Inputs.{states_text}
use Rattle.states.specs.Requests.{request_of}
use Rattle.states.specs.declared.reasons.StateReason.{StateReason}

abbrev pub asked_of : (words : List (List ℕ)) → Asked (Unit {0})
asked_of words = asked_by words (request_of words)

-- What was done that ended so: the bytes that the source has left, its count of faults, and what
-- the sink tells, each before and after.
abbrev pub TurnsInput : {T : Type 0} → Result T (ProgramError StateReason)
    → (left left' : Option (List ℕ)) (before now : ℕ) (old new : SinkState) → Type 0
TurnsInput result left left' before now old new =
    DoesWhole (λ input. Answers (states_text input)) result left left' before now old new

-- and what was done for words
abbrev pub DoesAsked : {T : Type 0} → (words : List (List ℕ)) → Result T (ProgramError StateReason)
    → (left left' : Option (List ℕ)) (before now : ℕ) (old new : SinkState) → Type 0
DoesAsked words result left left' before now old new =
    program.DoesAsked help_text version_text
    (λ request. TurnsInput result left left' before now old new)
    (asked_of words) result old new
