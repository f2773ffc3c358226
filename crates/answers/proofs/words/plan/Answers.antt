use Rattle.plan_certificate.specs.Tables.{table_text}
use Rattle.outcomes.specs.Inputs.{plan_alone}
use Rattle.answers.proofs.Unwritten.{unread_text, unwritten_text}
use Rattle.answers.proofs.words.plan.Goals as goal

pub returns-in_err-plan : goal.returns-in_err-plan
returns-in_err-plan g c =
    unread_text g.K.Sink.told table_text _ (plan_alone c.args.input.now) _ _
    c.in_err-plan.ensures c.from_residual.ensures.1

pub returns-in_err-write_table : goal.returns-in_err-write_table
returns-in_err-write_table g c =
    unwritten_text g.K.Sink.told table_text _ _ _ _ _ c.in_ok-plan.ensures
    c.from_residual-in_err-write_table.ensures.1 c.in_err-write_table.ensures

pub returns : goal.returns
returns g c = rw c.in_ok-plan.ensures c.in_ok-write_table.ensures
