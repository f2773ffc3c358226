use Rattle.std.proofs.Common.{◌∙◌, arith}
use Rattle.answers.proofs.ReadLayers.{none_behind}
use Rattle.answers.proofs.ReadScripted.{scripted_run}
use Rattle.answers.proofs.scripted.read_scripted.Goals as goal

pub runner_of-requires-clause-over : goal.runner_of-requires-clause-over
runner_of-requires-clause-over c = λ lt. absurd (omega (arith, lt))

pub runner_of-requires-clause-shape : goal.runner_of-requires-clause-shape
runner_of-requires-clause-shape c = c.in_ok-shape.ensures.shape ∙ none_behind c.in_ok-plan.plan 0

pub returns : goal.returns
returns c =
    scripted_run c.args.input.now c.in_ok-plan.plan c.in_ok-plan.bytes c.in_ok-plan.lines
    c.in_ok-shape.shape c.in-Ok.script c.in_ok-plan.ensures.exact
    c.in_ok-shape.ensures.shape c.in-Ok.ensures.exact _ c.in_ok-runner.runner
    c.in_ok-runner.ensures
