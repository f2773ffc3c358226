-- What the word `check` makes of an input: what a run certificate comes to, or the line at which it
-- is none.
use Rattle.std.specs.Prelude.{ℕ, ◌^◌, List, [], ◌∷◌, Option, Some, None, Result, Ok, Err, codes}
use Rattle.std.specs.Prelude.{decimal}
use Rattle.std.specs.List.{concat}
use Rattle.texts.specs.Parts.{At}
use Rattle.texts.specs.Limits.{Limited, by, beyond}
use Rattle.sync_types.specs.declared.status.Status.TheVariants as status
use Rattle.run_checker.specs.declared.Verdict.{Verdict}
use Rattle.run_checker.specs.declared.Verdict.TheVariants as verdict
use Rattle.run_checker.specs.Checks.{checked_within}
use Rattle.outcomes.specs.declared.refusals.Refusal.TheVariants as refusal
use Rattle.outcomes.specs.Outcomes.{Outcome, outcome_of, too_long}

-- the line of a true certificate: how many rows it has, and the first locked configuration of its
-- last era
abbrev pub true_line : (rows : ℕ) → (locked : Option ℕ) → List ℕ
true_line rows (Some t) =
    concat (codes "true rows " ∷ decimal rows ∷ codes " locked " ∷ decimal t ∷ codes "\n" ∷ [])
true_line rows None = concat (codes "true rows " ∷ decimal rows ∷ codes " locked none\n" ∷ [])

-- the line of a false one: its first row that differs
abbrev pub false_line : ℕ → List ℕ
false_line row = concat (codes "false row " ∷ decimal row ∷ codes "\n" ∷ [])

abbrev pub verdict_outcome : Verdict → Outcome
verdict_outcome (verdict.True rows locked) =
    record { status = status.Ok; text = true_line rows locked }
verdict_outcome (verdict.False row) =
    record { status = status.CertFalse row; text = false_line row }

-- a line is refused, or none is before the byte after the limit
abbrev pub unchecked_outcome : (line : ℕ) → Limited (Unit {0}) → Outcome
unchecked_outcome line (by r) = outcome_of (Err (refusal.Certificate line))
unchecked_outcome line beyond = too_long

abbrev pub checked_outcome : Result Verdict (At (Limited (Unit {0}))) → Outcome
checked_outcome (Ok verdict) = verdict_outcome verdict
checked_outcome (Err at) = unchecked_outcome at.line at.rule

-- a certificate has at most 2^44 bytes
abbrev pub check_outcome : List ℕ → Outcome
check_outcome input = checked_outcome (checked_within (2 ^ 44) input)
