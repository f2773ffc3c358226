-- What an error of reading says of the value that is defined. Want of memory says nothing.
use Rattle.std.specs.Prelude.{◌≡◌, Result, Err}
use Rattle.sync_types.specs.declared.answers.Rule.{Rule}
use Rattle.sync_types.specs.declared.answers.Part.{Part}
use Rattle.edge_io.specs.declared.taking.PartError.{PartError}
use Rattle.edge_io.specs.declared.taking.PartError.TheVariants as part
use Rattle.plan_reader.specs.declared.refusals.PlanError.{PlanError}
use Rattle.plan_reader.specs.declared.refusals.PlanError.TheVariants as plan
use Rattle.plan_certificate.specs.declared.table_refusals.TableError.{TableError}
use Rattle.plan_certificate.specs.declared.table_refusals.TableError.TheVariants as table
use Rattle.outcomes.specs.declared.refusals.Refusal.{Refusal}
use Rattle.outcomes.specs.declared.refusals.Refusal.TheVariants as refusal
use Rattle.answers.specs.declared.errors.Unanswered.{Unanswered}
use Rattle.answers.specs.declared.errors.Unanswered.TheVariants as end

-- a refusal is the one that is defined; no reading fails to write
abbrev pub Refuses : {V : Type 0} → Unanswered → Result V Refusal → Type 0
Refuses end.NoMemory defined = Unit {0}
Refuses (end.Refused refusal) defined = defined ≡ Err refusal
Refuses end.WriteFault defined = ⊥

-- ---- the errors of parts, as errors of an input

abbrev pub plan_error : PlanError → Unanswered
plan_error plan.NoMemory = end.NoMemory
plan_error (plan.Refused refused) = end.Refused (refusal.Plan refused.line refused.premise)

abbrev pub table_error : TableError → Unanswered
table_error table.NoMemory = end.NoMemory
table_error (table.Refused refused) = end.Refused (refusal.Table refused.line refused.cause)

abbrev pub part_error : Part → PartError Rule → Unanswered
part_error name part.NoMemory = end.NoMemory
part_error name (part.Refused refused) =
    end.Refused (refusal.Part name refused.line refused.rule)
