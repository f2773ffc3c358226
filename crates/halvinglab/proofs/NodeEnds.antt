-- What the word `node` left as it was, by how its call ended.
use Rattle.std.proofs.Common.{◌≡◌, Bool, Result, Err, subst}
use Rattle.std.specs.Prelude.{IsErrOf}
use Rattle.program_words.specs.declared.asked.Asked.TheVariants as asked
use Rattle.program_words.specs.declared.errors.ProgramError.{ProgramError}
use Rattle.program_words.specs.declared.errors.ProgramError.TheVariants as error
use Rattle.node_words.specs.declared.headers.HeaderRefusal.TheVariants as header
use Rattle.node_words.specs.declared.errors.NodeError.{NodeError}
use Rattle.node_words.specs.declared.errors.NodeError.TheVariants as node
use Rattle.node_words.specs.Conduct.{LeavesUnmet, LeavesUntouched}
use Rattle.halving_texts.specs.declared.premises.LinePremise.{LinePremise}
use Rattle.halvinglab.specs.declared.reasons.LabReason.{LabReason}
use Rattle.halvinglab.specs.declared.requests.Request.TheVariants as request
use Rattle.halvinglab.specs.Conduct.{KeptAt}
use Rattle.halvinglab.specs.NodeWord.{error_of}

pub kept_so : {K : Type 0} (e : NodeError LinePremise) (old new : K)
    → LeavesUntouched {Premise = LinePremise} (Err e) old new
    → KeptAt (asked.Request request.Node) old new (error_of e)
kept_so (node.Refused (header.Plan line premise)) old new kept = tt
kept_so (node.Refused (header.Node line rule)) old new kept = tt
kept_so node.ReadFault old new kept = tt
kept_so node.WriteFault old new kept = tt
kept_so node.TooLong old new kept = tt
kept_so (node.Cut packet sender) old new kept = tt
kept_so node.NoMemory old new kept = kept

-- a read failed before the end was met
abbrev UnmetAt : {T : Type 0} → (before now : Bool) → Result T (ProgramError LabReason) → Type 0
UnmetAt before now (Err error.ReadFault) = now ≡ before
UnmetAt before now other = Unit {0}

unmet_at : (T : Type 0) (e : NodeError LinePremise) (before now : Bool)
    → LeavesUnmet {Premise = LinePremise} (Err e) before now
    → UnmetAt {T = T} before now (Err (error_of e))
unmet_at T (node.Refused (header.Plan line premise)) before now unmet = tt
unmet_at T (node.Refused (header.Node line rule)) before now unmet = tt
unmet_at T node.ReadFault before now unmet = unmet
unmet_at T node.WriteFault before now unmet = tt
unmet_at T node.TooLong before now unmet = tt
unmet_at T (node.Cut packet sender) before now unmet = tt
unmet_at T node.NoMemory before now unmet = tt

pub unmet_so : (T : Type 0) (e : NodeError LinePremise) (before now : Bool)
    → LeavesUnmet {Premise = LinePremise} (Err e) before now
    → IsErrOf {T = T} (Err (error_of e)) error.ReadFault → now ≡ before
unmet_so T e before now unmet is =
    subst (λ (x : Result T (ProgramError LabReason)). UnmetAt before now x) is
    (unmet_at T e before now unmet)
