-- What `sweep` did to its source and its sinks for what its words ask for.
use Rattle.std.specs.Prelude.{◌≡◌, ℕ, Bool, List, Option, Result}
use Rattle.texts.specs.Growth.{SinkState}
use Rattle.program_words.specs.Asked.{asked_by}
use Rattle.program_words.specs.Conduct as program
use Rattle.program_words.specs.Conduct.{Answers, DoesWhole}
use Rattle.program_words.specs.declared.asked.Asked.{Asked}
use Rattle.program_words.specs.declared.asked.Asked.TheVariants as asked
use Rattle.program_words.specs.declared.errors.ProgramError.{ProgramError}
use Rattle.sweep.specs.Progress.{Says}
use Rattle.sweep.specs.HelpText.{help_text, version_text}
use Rattle.sweep.specs.Inputs.{sweep_of}
use Rattle.sweep.specs.NumberRanges.{NumberRange}
use Rattle.sweep.specs.Requests.{request_of}
use Rattle.sweep.specs.declared.reasons.SweepReason.{SweepReason}

abbrev pub asked_of : (words : List (List ℕ)) → Asked NumberRange
asked_of words = asked_by words (request_of words)

-- What a sweep did that ended so: the bytes that its source has left, the source's count of faults,
-- and what its sink reports, each before and after.
abbrev pub SweepsInput : {T : Type 0} → Result T (ProgramError SweepReason) → NumberRange
    → (left left' : Option (List ℕ)) (before now : ℕ) (old new : SinkState) → Type 0
SweepsInput result numbers left left' before now old new =
    DoesWhole (λ input. Answers (sweep_of numbers input)) result left left' before now old new

-- and what was done for words
abbrev pub DoesAsked : {T : Type 0} → (words : List (List ℕ)) → Result T (ProgramError SweepReason)
    → (left left' : Option (List ℕ)) (before now : ℕ) (old new : SinkState) → Type 0
DoesAsked words result left left' before now old new =
    program.DoesAsked help_text version_text
    (λ numbers. SweepsInput result numbers left left' before now old new)
    (asked_of words) result old new

-- What was said of how far a sweep is: nothing if none is asked for.
abbrev pub SaysAsked : Asked NumberRange → (name : List ℕ) → (is_on : Bool) → (old new : SinkState)
    → Type 0
SaysAsked (asked.Request numbers) name is_on old new = Says name is_on numbers.count old new
SaysAsked other name is_on old new = new ≡ old
