-- What the word `node` did, by what a call of a node of a plan did.
use Rattle.std.proofs.Common.{ℕ, Bool, List, Option, Some, Result, Ok, Err, refl, ap}
use Rattle.std.specs.Prelude.{IfOk}
use Rattle.texts.specs.Growth.{SinkState}
use Rattle.sync_types.specs.declared.answers.Premise.{Premise}
use Rattle.construction.specs.Plans.{Plan}
use Rattle.state_codec.specs.Shapes.{moduli_of}
use Rattle.state_codec.proofs.Plans.{nodes_of_shape}
use Rattle.node_words.specs.declared.headers.HeaderRefusal.TheVariants as header
use Rattle.node_words.specs.declared.errors.NodeError.{NodeError}
use Rattle.node_words.specs.declared.errors.NodeError.TheVariants as error
use Rattle.node_words.specs.Constructions.{IsShaped}
use Rattle.node_words.specs.Conduct as any
use Rattle.outcomes.specs.declared.commands.Command.TheVariants as command
use Rattle.outcomes.specs.PlanWords.{plan_words}
use Rattle.outcomes.specs.NodeAnswers.{node_status}
use Rattle.outcomes.specs.Commands.{as_it_goes, defined}
use Rattle.outcomes.specs.Conduct.{Reads, Answered, Does, LeavesUnmet, LeavesUntouched}

-- whatever a call gives for a plan, its states have the shape of its machine's
pub any_shaped : {A E : Type 0} (r : Result A E) (plan : Plan)
    → IfOk r (λ _. IsShaped plan_words plan)
any_shaped (Err other) plan = tt
any_shaped (Ok value) plan =
    record { nodes = nodes_of_shape plan (moduli_of plan.levels); fields = λ v lt. refl }

module _ (left left' : Option (List ℕ)) (before now : ℕ) (old new : SinkState) where
  abbrev Did : Result ℕ (NodeError Premise) → Type 0
  Did ended = any.NodeDoes plan_words ended left left' before now old new

  answered : (ended : Result ℕ (NodeError Premise))
      → (did : any.Answered plan_words ended left left' before now old new)
      → Reads as_it_goes (node_status ended) left left' did.input
      → Answered as_it_goes (defined (Some command.Node)) (node_status ended) left left' before now
      old new
  answered ended did reads = record {
    input = did.input;
    read = reads;
    still = did.still;
    status = ap node_status did.is;
    wrote = did.wrote;
  }

  pub did_so : (ended : Result ℕ (NodeError Premise)) → Did ended
      → Does (Some command.Node) (node_status ended) left left' before now old new
  did_so (Ok count) did = answered (Ok count) did did.read
  did_so (Err (error.Refused (header.Plan line premise))) did =
      answered (Err (error.Refused (header.Plan line premise))) did did.read
  did_so (Err (error.Refused (header.Node line rule))) did =
      answered (Err (error.Refused (header.Node line rule))) did did.read
  did_so (Err error.TooLong) did = answered (Err error.TooLong) did did.read
  did_so (Err (error.Cut packet sender)) did = answered (Err (error.Cut packet sender)) did did.read
  did_so (Err error.ReadFault) did = record {
    seen = did.seen;
    read = did.read;
    pending = did.pending;
    cause = did.cause;
    wrote = did.wrote;
  }
  did_so (Err error.WriteFault) did =
      record { input = did.input; read = did.read; still = did.still; cut = did.cut }
  did_so (Err error.NoMemory) did = did

pub unmet_so : (ended : Result ℕ (NodeError Premise)) (before now : Bool)
    → any.LeavesUnmet ended before now → LeavesUnmet (node_status ended) before now
unmet_so (Ok count) before now unmet = tt
unmet_so (Err (error.Refused (header.Plan line premise))) before now unmet = tt
unmet_so (Err (error.Refused (header.Node line rule))) before now unmet = tt
unmet_so (Err error.ReadFault) before now unmet = unmet
unmet_so (Err error.WriteFault) before now unmet = tt
unmet_so (Err error.TooLong) before now unmet = tt
unmet_so (Err (error.Cut packet sender)) before now unmet = tt
unmet_so (Err error.NoMemory) before now unmet = tt

pub untouched_so : {K : Type 0} (ended : Result ℕ (NodeError Premise)) (old new : K)
    → any.LeavesUntouched ended old new
    → LeavesUntouched (Some command.Node) (node_status ended) old new
untouched_so (Ok count) old new kept = tt
untouched_so (Err (error.Refused (header.Plan line premise))) old new kept = tt
untouched_so (Err (error.Refused (header.Node line rule))) old new kept = tt
untouched_so (Err error.ReadFault) old new kept = tt
untouched_so (Err error.WriteFault) old new kept = tt
untouched_so (Err error.TooLong) old new kept = tt
untouched_so (Err (error.Cut packet sender)) old new kept = tt
untouched_so (Err error.NoMemory) old new kept = kept
