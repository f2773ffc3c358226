use Rattle.plan_reader.specs.PlanTexts.{plan_text}
use Rattle.outcomes.specs.Inputs.{plan_alone}
use Rattle.answers.proofs.Unwritten.{unread_text, unwritten_text}
use Rattle.answers.proofs.words.upgrade.Goals as goal

pub returns-in_err-plan : goal.returns-in_err-plan
returns-in_err-plan g c =
    unread_text g.K.Sink.told (plan_text 2) _ (plan_alone c.args.input.now) _ _
    c.in_err-plan.ensures c.from_residual.ensures.1

pub returns-in_err-write_plan : goal.returns-in_err-write_plan
returns-in_err-write_plan g c =
    unwritten_text g.K.Sink.told (plan_text 2) _ _ _ _ _ c.in_ok-plan.ensures
    c.from_residual-in_err-write_plan.ensures.1 c.in_err-write_plan.ensures

pub returns : goal.returns
returns g c = rw c.in_ok-plan.ensures c.in_ok-write_plan.ensures
