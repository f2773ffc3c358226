-- What an error of reading a table text says of the plan that is defined. Want of memory says
-- nothing.
use Rattle.std.specs.Prelude.{◌≡◌, ℕ, Result, Err}
use Rattle.texts.specs.Parts.{At}
use Rattle.sync_types.specs.declared.answers.Cause.{Cause}
use Rattle.sync_types.specs.declared.answers.Cause.TheVariants.{Premise}
use Rattle.sync_types.specs.declared.answers.Premise.TheVariants.{Form}
use Rattle.plan_certificate.specs.declared.table_refusals.TableError.{TableError}
use Rattle.plan_certificate.specs.declared.table_refusals.TableError.TheVariants as table

-- a refusal is exactly the one that is defined
abbrev pub FailsAsDefined : {V : Type 0} → TableError → Result V (At Cause) → Type 0
FailsAsDefined table.NoMemory defined = Unit {0}
FailsAsDefined (table.Refused refusal) defined =
    defined ≡ Err (record { line = refusal.line; rule = refusal.cause })

-- the refusal of a line that may not stand there, or is not there
abbrev pub form_at : ℕ → TableError
form_at line = table.Refused (record { line = line; cause = Premise Form })
