-- Which status a call of `node` ends with, by how its node ended.
use Rattle.std.specs.Prelude.{◌≡◌, ℕ, Ok, Err}
use Rattle.sync_types.specs.declared.answers.Part.TheVariants as part
use Rattle.sync_types.specs.declared.answers.Premise.{Premise}
use Rattle.sync_types.specs.declared.status.Status.TheVariants as status
use Rattle.node_words.specs.declared.headers.HeaderRefusal.{HeaderRefusal}
use Rattle.node_words.specs.declared.headers.HeaderRefusal.TheVariants as header
use Rattle.node_words.specs.Rules.{header_line}
use Rattle.node_words.specs.declared.errors.NodeError.TheVariants as error
use Rattle.outcomes.specs.declared.refusals.Refusal.{Refusal}
use Rattle.outcomes.specs.declared.refusals.Refusal.TheVariants as refusal
use Rattle.outcomes.specs.Refusals.{refusal_line, refusal_status}
use Rattle.outcomes.specs.NodeAnswers.{node_status}
use Rattle.outcomes.specs.PlanWords.{plan_words}

-- a refused header as a refusal of the program: of the plan, or of the part of the node
abbrev pub header_refusal : HeaderRefusal Premise → Refusal
header_refusal (header.Plan line premise) = refusal.Plan line premise
header_refusal (header.Node line rule) = refusal.Part part.Node line rule

-- At the end of its input, after so many packets, it is Ok; each other end has a status of its own
-- name, with the same numbers. The status and the line of a refused header are those of one
-- refusal.
pub record StatusesAreMeant : Type 0 where
  pub ok : (count : ℕ) → node_status (Ok count) ≡ status.Ok
  pub cut : (packet sender : ℕ)
      → node_status (Err (error.Cut packet sender)) ≡ status.Cut packet sender
  pub too_long : node_status (Err error.TooLong) ≡ status.TooLong
  pub read_fault : node_status (Err error.ReadFault) ≡ status.ReadFault
  pub write_fault : node_status (Err error.WriteFault) ≡ status.WriteFault
  pub no_memory : node_status (Err error.NoMemory) ≡ status.NoMemory
  pub refused : (r : HeaderRefusal Premise)
      → node_status (Err (error.Refused r)) ≡ refusal_status (header_refusal r)
  pub line : (r : HeaderRefusal Premise)
      → header_line plan_words r ≡ refusal_line (header_refusal r)
