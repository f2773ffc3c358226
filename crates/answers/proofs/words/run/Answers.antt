use Rattle.run_lines.specs.RowTexts.{run_text}
use Rattle.outcomes.specs.Inputs.{Scripted, scripted_of}
use Rattle.answers.proofs.ReadScripted.{run_is}
use Rattle.answers.proofs.Unwritten.{refuses_text, unread, unwritten}
use Rattle.answers.proofs.words.run.Goals as goal

pub returns-in_err-runner : goal.returns-in_err-runner
returns-in_err-runner g c =
    unread g.K.Sink.told _ _ _ _
    (refuses_text (λ (s : Scripted). run_text s.plan s.script) _ (scripted_of c.args.input.now)
    c.in_err-runner.ensures)
    c.from_residual.ensures.1

pub put_counting-requires : goal.put_counting-requires
put_counting-requires g c = c.in_ok-runner.ensures.plays

pub returns-in_err-put_counting : goal.returns-in_err-put_counting
returns-in_err-put_counting g c =
    unwritten g.K.Sink.told _ _ _ _ _
    (run_is c.args.input.now _ c.in_ok-runner.runner c.in_ok-runner.ensures)
    c.from_residual-in_err-put_counting.ensures.1 c.in_err-put_counting.ensures

pub returns : goal.returns
returns g c =
    rw (run_is c.args.input.now _ c.in_ok-runner.runner c.in_ok-runner.ensures)
    c.in_ok-put_counting.ensures
