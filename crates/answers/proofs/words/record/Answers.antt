use Rattle.std.proofs.Common.{ap}
use Rattle.run_checker.specs.Certificates.{certificate_text}
use Rattle.run_checker.specs.Recorded.{certificate_of}
use Rattle.outcomes.specs.Inputs.{Scripted, scripted_of}
use Rattle.outcomes.specs.Answers.{text_by}
use Rattle.answers.proofs.Unwritten.{refuses_text, unread, unwritten}
use Rattle.answers.proofs.words.record.Goals as goal

pub returns-in_err-plan : goal.returns-in_err-plan
returns-in_err-plan g c =
    unread g.K.Sink.told _ _ _ _
    (refuses_text (λ (s : Scripted). certificate_text (certificate_of s.plan s.script)) _
    (scripted_of c.args.input.now) c.in_err-plan.ensures)
    c.from_residual.ensures.1

pub returns-in_err-write_run : goal.returns-in_err-write_run
returns-in_err-write_run g c =
    unwritten g.K.Sink.told _ _ _ _ _
    (ap (text_by (λ (s : Scripted). certificate_text (certificate_of s.plan s.script)))
    c.in_ok-plan.ensures.read)
    c.from_residual-in_err-write_run.ensures.1 c.in_err-write_run.ensures.text

pub returns : goal.returns
returns g c = rw c.in_ok-plan.ensures.read c.in_ok-write_run.ensures.text
