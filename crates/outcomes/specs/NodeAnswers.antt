-- What the word `node` makes of an input: what any node makes of one whose plans are read by
-- `plan_words`, with a status for how it ended.
use Rattle.std.specs.Prelude.{ℕ, List, Result, Ok, Err}
use Rattle.sync_types.specs.declared.answers.Part.TheVariants as part
use Rattle.sync_types.specs.declared.answers.Premise.{Premise}
use Rattle.sync_types.specs.declared.status.Status.{Status}
use Rattle.sync_types.specs.declared.status.Status.TheVariants as status
use Rattle.node_words.specs.declared.headers.HeaderRefusal.TheVariants as header
use Rattle.node_words.specs.declared.errors.NodeError.{NodeError}
use Rattle.node_words.specs.declared.errors.NodeError.TheVariants as error
use Rattle.node_words.specs.NodeAnswers as any
use Rattle.outcomes.specs.Outcomes.{Outcome}
use Rattle.outcomes.specs.PlanWords.{plan_words}

-- the status of a call that ends so
abbrev pub node_status : Result ℕ (NodeError Premise) → Status
node_status (Ok count) = status.Ok
node_status (Err (error.Refused (header.Plan line premise))) = status.PlanRefused line premise
node_status (Err (error.Refused (header.Node line rule))) = status.PartRefused part.Node line rule
node_status (Err error.ReadFault) = status.ReadFault
node_status (Err error.WriteFault) = status.WriteFault
node_status (Err error.TooLong) = status.TooLong
node_status (Err (error.Cut packet sender)) = status.Cut packet sender
node_status (Err error.NoMemory) = status.NoMemory

-- the line of a header that is refused, nothing of one that is too long, or the node's cells
abbrev pub node_outcome : List ℕ → Outcome
node_outcome input =
    let made = any.node_outcome plan_words input in
    record { status = node_status made.ended; text = made.text }

-- bytes that do not show what decides an input
abbrev pub IsNodePending : List ℕ → Type 0
IsNodePending = any.IsNodePending plan_words

-- what is written if a read fails after these bytes: the cells, once the header is whole
abbrev pub node_so_far : List ℕ → List ℕ
node_so_far = any.node_so_far plan_words
