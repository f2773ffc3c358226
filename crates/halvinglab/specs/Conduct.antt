-- What a call did to its source and its sink for what its words ask for.
use Rattle.std.specs.Prelude.{◌≡◌, ℕ, List, Option, Result}
use Rattle.texts.specs.Growth.{SinkState}
use Rattle.program_words.specs.Asked.{asked_by}
use Rattle.program_words.specs.Conduct as program
use Rattle.program_words.specs.Conduct.{DoesWhole}
use Rattle.program_words.specs.declared.asked.Asked.{Asked}
use Rattle.program_words.specs.declared.asked.Asked.TheVariants as asked
use Rattle.program_words.specs.declared.errors.ProgramError.{ProgramError}
use Rattle.program_words.specs.declared.errors.ProgramError.TheVariants as error
use Rattle.halvinglab.specs.Answers.{answer_of, WritesAnswer}
use Rattle.halvinglab.specs.HelpText.{help_text, version_text}
use Rattle.halvinglab.specs.NodeWord.{ServesNode}
use Rattle.halvinglab.specs.Requests.{request_of}
use Rattle.halvinglab.specs.declared.reasons.LabReason.{LabReason}
use Rattle.halvinglab.specs.declared.requests.Request.{Request}
use Rattle.halvinglab.specs.declared.requests.Request.TheVariants as request

abbrev pub asked_of : (words : List (List ℕ)) → Asked Request
asked_of words = asked_by words (request_of words)

-- What was done for a request, by how it ended: the bytes that the source has left, its count of
-- faults, and what the sink tells, each before and after.
abbrev pub DoesRequest : {T : Type 0} → Result T (ProgramError LabReason) → Request
    → (left left' : Option (List ℕ)) (before now : ℕ) (old new : SinkState) → Type 0
DoesRequest result (request.Whole word) left left' before now old new =
    DoesWhole (λ input. WritesAnswer (answer_of word input)) result left left' before now old new
DoesRequest result request.Node left left' before now old new =
    ServesNode result left left' before now old new

-- and for words
abbrev pub DoesAsked : {T : Type 0} → (words : List (List ℕ)) → Result T (ProgramError LabReason)
    → (left left' : Option (List ℕ)) (before now : ℕ) (old new : SinkState) → Type 0
DoesAsked words result left left' before now old new =
    program.DoesAsked help_text version_text
    (λ request. DoesRequest result request left left' before now old new)
    (asked_of words) result old new

-- ---- what was not touched, also if a sink tells nothing

-- Nothing is written if it ends so.
abbrev pub KeepsSink : {K : Type 0} → (old new : K) → ProgramError LabReason → Type 0
KeepsSink old new error.Usage = new ≡ old
KeepsSink old new error.NoMemory = new ≡ old
KeepsSink old new error.ReadFault = new ≡ old
KeepsSink old new error.TooLong = new ≡ old
KeepsSink old new other = Unit {0}

-- A node that loses its input, or is given too much, has written its cells before.
abbrev pub KeptAt : {K : Type 0} → Asked Request → (old new : K) → ProgramError LabReason → Type 0
KeptAt (asked.Request request.Node) old new error.ReadFault = Unit {0}
KeptAt (asked.Request request.Node) old new error.TooLong = Unit {0}
KeptAt asked old new error = KeepsSink old new error
