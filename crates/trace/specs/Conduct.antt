-- What `trace` did to its source and its sink for what its words ask for.
use Rattle.std.specs.Prelude.{ℕ, List, Option, Result}
use Rattle.texts.specs.Growth.{SinkState}
use Rattle.program_words.specs.Asked.{asked_by}
use Rattle.program_words.specs.Conduct as program
use Rattle.program_words.specs.Conduct.{Answers, DoesWhole}
use Rattle.program_words.specs.declared.asked.Asked.{Asked}
use Rattle.program_words.specs.declared.errors.ProgramError.{ProgramError}
use Rattle.trace.specs.Wanted.{Wanted}
use Rattle.trace.specs.Answers.{trace_of}
use Rattle.trace.specs.HelpText.{help_text, version_text}
use Rattle.trace.specs.Requests.{node_words, request_of}
use Rattle.trace.specs.declared.reasons.TraceReason.{TraceReason}

abbrev pub asked_of : (words : List (List ℕ)) → Asked Wanted
asked_of words = asked_by words (request_of words)

-- What a trace did that ended so, if these words name the nodes: the bytes that its source has
-- left, the source's count of faults, and what its sink tells, each before and after.
abbrev pub TracesInput : {T : Type 0} → Result T (ProgramError TraceReason) → Wanted
    → (nodes : List (List ℕ))
    → (left left' : Option (List ℕ)) (before now : ℕ) (old new : SinkState) → Type 0
TracesInput result want nodes left left' before now old new =
    DoesWhole (λ input. Answers (trace_of want nodes input)) result left left' before now old new

-- and what was done for words
abbrev pub DoesAsked : {T : Type 0} → (words : List (List ℕ)) → Result T (ProgramError TraceReason)
    → (left left' : Option (List ℕ)) (before now : ℕ) (old new : SinkState) → Type 0
DoesAsked words result left left' before now old new =
    program.DoesAsked help_text version_text
    (λ want. TracesInput result want (node_words words) left left' before now old new)
    (asked_of words) result old new
