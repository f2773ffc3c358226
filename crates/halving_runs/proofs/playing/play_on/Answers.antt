use Rattle.halving_plan.specs.Laws.{machine_in}
use Rattle.machine_runner.specs.Runners.{begun}
use Rattle.halving_runs.proofs.Written.{wrote_of, cut_of, faulted}
use Rattle.halving_runs.proofs.playing.play_on.Goals as goal

pub returns-in_err-put_shown-clause-does : goal.returns-in_err-put_shown-clause-does
returns-in_err-put_shown-clause-does g c =
    faulted _ _ _ _ c.from_residual-in_err-put_shown.ensures.1
    (cut_of (g.L.ShownLines.front c.args.lines.now) (g.L.ShownLines.word c.args.lines.now)
    machine_in _ (begun c.args.machine.now c.args.script) c.in_ok-runner.ensures _ _
    c.in_err-put_shown.ensures)

pub returns-clause-does : goal.returns-clause-does
returns-clause-does g c =
    wrote_of (g.L.ShownLines.front c.args.lines.now) (g.L.ShownLines.word c.args.lines.now)
    machine_in _ (begun c.args.machine.now c.args.script) c.in_ok-runner.ensures _ _
    c.in_ok-put_shown.ensures
