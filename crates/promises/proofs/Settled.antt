-- If the plan part of an input is accepted, the plan settles.
use Rattle.std.proofs.Common.{Result, Ok, Err, refl}
use Rattle.std.specs.Prelude.{IfOk}
use Rattle.texts.specs.Parts.{Found, At}
use Rattle.sync_types.specs.declared.answers.Premise.{Premise}
use Rattle.construction.specs.Plans.{Plan}
use Rattle.plan_numbers.specs.Premises.{IsAccepted}
use Rattle.plan_reader.specs.PlanPart.{plan_of}
use Rattle.plan_reader.proofs.AcceptedPlans.{plan_accepted}
use Rattle.plan_laws.specs.Laws.{EveryPlanSettles, EachHasOneNext, LocksAtBound, LockedRunsCount}
use Rattle.plan_laws.specs.VersionLaws.{VersionsAgree}
use Rattle.promises.specs.Laws.{IsSelfStabilising, AcceptedStabilise, AcceptedPlansSettle}

pub accepted_stabilise : EveryPlanSettles → EachHasOneNext → LocksAtBound → LockedRunsCount
    → VersionsAgree → AcceptedStabilise
accepted_stabilise settles next locks stays versions plan accepted = record {
  accepted = accepted;
  settles = settles plan accepted;
  next = next plan accepted;
  locks = locks plan accepted;
  stays = stays plan accepted;
  versions = versions plan;
  machine = λ version. refl;
}

whichever : AcceptedStabilise → (answer : Result (Found Plan) (At Premise))
    → IfOk answer (λ found. IsAccepted found.value)
    → IfOk answer (λ found. IsSelfStabilising found.value)
whichever law (Ok found) accepted = law found.value accepted
whichever law (Err refusal) accepted = tt

pub accepted_settle : AcceptedStabilise → AcceptedPlansSettle
accepted_settle law input = whichever law (plan_of input) (plan_accepted input)
