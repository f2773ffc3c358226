-- What the word `node` does: it reads a header and packets, and writes the node's cells.
use Rattle.std.specs.Prelude.{◌≡◌, ℕ, List, Option, Result, Ok, Err}
use Rattle.texts.specs.Growth.{SinkState}
use Rattle.sync_types.specs.declared.answers.Part.TheVariants as part
use Rattle.program_words.specs.declared.errors.ProgramError.{ProgramError}
use Rattle.program_words.specs.declared.errors.ProgramError.TheVariants as error
use Rattle.node_words.specs.declared.headers.HeaderRefusal.TheVariants as header
use Rattle.node_words.specs.declared.errors.NodeError.{NodeError}
use Rattle.node_words.specs.declared.errors.NodeError.TheVariants as node
use Rattle.node_words.specs.Conduct.{NodeDoes}
use Rattle.halving_texts.specs.declared.premises.LinePremise.{LinePremise}
use Rattle.halving_texts.specs.HalvingWords.{halving_words}
use Rattle.halving_runs.specs.declared.errors.RunRefusal.TheVariants as refusal
use Rattle.halvinglab.specs.declared.reasons.LabReason.{LabReason}
use Rattle.halvinglab.specs.declared.reasons.LabReason.TheVariants as reason

-- the error of a node that did not answer all of its input
abbrev pub error_of : NodeError LinePremise → ProgramError LabReason
error_of (node.Refused (header.Plan line premise)) =
    error.Refused (reason.Input (refusal.Plan line premise))
error_of (node.Refused (header.Node line rule)) =
    error.Refused (reason.Input (refusal.Part part.Node line rule))
error_of node.ReadFault = error.ReadFault
error_of node.WriteFault = error.WriteFault
error_of node.TooLong = error.TooLong
error_of (node.Cut packet sender) = error.Refused (reason.Cut packet sender)
error_of node.NoMemory = error.NoMemory

-- so many packets were answered, and after them the input ended
pub record NodeDone (left left' : Option (List ℕ)) (before now : ℕ)
    (old new : SinkState) : Type 0 where
  pub count : ℕ
  pub did : NodeDoes halving_words (Ok count) left left' before now old new

-- what it did if it ended with an error
pub record NodeFails (left left' : Option (List ℕ)) (before now : ℕ) (old new : SinkState)
    (error : ProgramError LabReason) : Type 0 where
  pub ended : NodeError LinePremise
  pub is : error ≡ error_of ended
  pub did : NodeDoes halving_words (Err ended) left left' before now old new

-- and by how it ended
abbrev pub ServesNode : {T : Type 0} → Result T (ProgramError LabReason)
    → (left left' : Option (List ℕ)) (before now : ℕ) (old new : SinkState) → Type 0
ServesNode (Ok value) left left' before now old new = NodeDone left left' before now old new
ServesNode (Err e) left left' before now old new = NodeFails left left' before now old new e
