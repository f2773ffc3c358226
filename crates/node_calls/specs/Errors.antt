-- How calls fail.
use Rattle.std.specs.Prelude.{◌≡◌, Result, Ok, Err, MatchResult}
use Rattle.texts.specs.Parts.{At}
use Rattle.sync_types.specs.declared.answers.Premise.{Premise}
use Rattle.plan_reader.specs.declared.refusals.PlanError.{PlanError}
use Rattle.plan_reader.specs.declared.refusals.PlanError.TheVariants as plan
use Rattle.halving_texts.specs.declared.premises.LinePremise.{LinePremise}
use Rattle.halving_texts.specs.declared.refusals.HalvingError.{HalvingError}
use Rattle.halving_texts.specs.declared.refusals.HalvingError.TheVariants as halving
use Rattle.node_calls.specs.declared.errors.CallError.{CallError}
use Rattle.node_calls.specs.declared.errors.CallError.TheVariants as error

-- the error of a plan whose line is refused
abbrev pub refused_at : At Premise → CallError
refused_at at = error.Refused (record { line = at.line; premise = at.rule })

-- the error of a plan that is not read
abbrev pub error_of : PlanError → CallError
error_of (plan.Refused refusal) = error.Refused refusal
error_of plan.NoMemory = error.NoMemory

-- the error of a halving plan whose line is refused
abbrev pub halving_refused_at : At LinePremise → CallError
halving_refused_at at = error.HalvingRefused (record { line = at.line; premise = at.rule })

-- the error of a halving plan that is not read
abbrev pub halving_error_of : HalvingError → CallError
halving_error_of (halving.Refused refusal) = error.HalvingRefused refusal
halving_error_of halving.NoMemory = error.NoMemory

-- an error is the one that is defined; want of memory says nothing
abbrev pub FailsAs : {V : Type 0} → CallError → Result V CallError → Type 0
FailsAs error.NoMemory defined = Unit {0}
FailsAs other defined = defined ≡ Err other

-- an answer is the one that is defined, or memory was refused
abbrev pub Answers : {V : Type 0} → Result V CallError → Result V CallError → Type 0
Answers answer defined = MatchResult answer (λ value. defined ≡ Ok value) (λ e. FailsAs e defined)
