use Rattle.std.proofs.Common.{ap}
use Rattle.outcomes.specs.ExplainText.{explain_text}
use Rattle.outcomes.specs.Inputs.{Scripted, scripted_of}
use Rattle.outcomes.specs.Answers.{text_by}
use Rattle.answers.proofs.Unwritten.{refuses_text, unread, unwritten}
use Rattle.answers.proofs.words.explain.Goals as goal

pub returns-in_err-plan : goal.returns-in_err-plan
returns-in_err-plan g c =
    unread g.K.Sink.told _ _ _ _
    (refuses_text (λ (s : Scripted). explain_text s.plan s.script) _ (scripted_of c.args.input.now)
    c.in_err-plan.ensures)
    c.from_residual.ensures.1

pub returns-in_err-put_explained : goal.returns-in_err-put_explained
returns-in_err-put_explained g c =
    unwritten g.K.Sink.told _ _ _ _ _
    (ap (text_by (λ (s : Scripted). explain_text s.plan s.script)) c.in_ok-plan.ensures.read)
    c.from_residual-in_err-put_explained.ensures.1 c.in_err-put_explained.ensures

pub returns : goal.returns
returns g c = rw c.in_ok-plan.ensures.read c.in_ok-put_explained.ensures
