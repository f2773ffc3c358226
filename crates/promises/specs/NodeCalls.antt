-- Calls of `node`, by the bytes that each read: as those of a node of any construction, of plans.
use Rattle.std.specs.Prelude.{◌≡◌, ⊤, ℕ, List, Option, Some, Result, Ok}
use Rattle.std.specs.Io.KnownBytes.{Consumes}
use Rattle.texts.specs.Growth.{SinkState, Wrote}
use Rattle.sync_types.specs.declared.status.Status.{Status}
use Rattle.sync_types.specs.declared.status.Status.TheVariants as status
use Rattle.construction.specs.Plans.{Plan}
use Rattle.plan_laws.specs.VersionLaws.{in_version}
use Rattle.node_words.specs.Headers.{Header, HeaderRefusal}
pub use Rattle.node_words.specs.Calls.{Call, whole, failed}
use Rattle.node_words.specs.Calls as any
use Rattle.outcomes.specs.declared.commands.Command.TheVariants as command
use Rattle.outcomes.specs.PlanWords.{plan_words}
use Rattle.outcomes.specs.Commands.{as_it_goes}
use Rattle.outcomes.specs.Conduct.{Reads, Does}

-- its header
abbrev pub header_of : Call → Result Header (Option HeaderRefusal)
header_of = any.header_of plan_words

-- the whole packets after it
abbrev pub packets_in : Call → List (List (List ℕ))
packets_in = any.packets_in plan_words

-- what it writes
abbrev pub text_of : Call → List ℕ
text_of = any.text_of plan_words

-- its header names node v of the plan, in either version, in any state that is read
pub record IsOfNode (plan : Plan) (v : ℕ) (call : Call) : Type 0 where
  pub header : Header
  pub is : header_of call ≡ Ok header
  pub names : in_version 2 header.plan ≡ in_version 2 plan
  pub id : header.node.id ≡ v

-- ---- what a call did

-- the statuses with which all is written that is said of the bytes that were read
abbrev pub HasWrittenAll : Status → Type 0
HasWrittenAll status.Ok = ⊤
HasWrittenAll (status.Cut packet sender) = ⊤
HasWrittenAll status.TooLong = ⊤
HasWrittenAll status.ReadFault = ⊤
HasWrittenAll other = ⊥

-- what such a call read of its source
abbrev pub HasRead : Status → (left left' : Option (List ℕ)) → Call → Type 0
HasRead s left left' (whole input) = Reads as_it_goes s left left' input
HasRead s left left' (failed seen) = (s ≡ status.ReadFault) × Consumes left left' seen

-- one of these calls was made, and its text was written
pub record IsCall (s : Status) (left left' : Option (List ℕ)) (old new : SinkState) : Type 0 where
  pub call : Call
  pub read : HasRead s left left' call
  pub wrote : Wrote (text_of call) old new

-- what `node` does with such a status is such a call
abbrev pub CallsWriteTexts : Type 0
CallsWriteTexts = (s : Status) → HasWrittenAll s → (left left' : Option (List ℕ)) (before now : ℕ)
    (old new : SinkState) → Does (Some command.Node) s left left' before now old new
    → IsCall s left left' old new
