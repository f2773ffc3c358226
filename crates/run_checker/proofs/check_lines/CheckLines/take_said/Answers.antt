use Rattle.std.proofs.Common.{Ok, None, subst}
use Rattle.edge_io.specs.Taking.{Takes}
use Rattle.run_checker.specs.Checking.{Stage, step_by}
use Rattle.run_checker.specs.SaidLines.{item_seen}
use Rattle.run_checker.specs.Phases.{phase_seen}
use Rattle.run_checker.proofs.BodySteps.{entered}
use Rattle.run_checker.proofs.check_lines.CheckLines.take_said.Goals as goal

pub returns-in_ok-self-inside-in-Head : goal.returns-in_ok-self-inside-in-Head
returns-in_ok-self-inside-in-Head c =
    subst (λ (s : Stage). Takes (step_by s (item_seen c.args.said))
    (phase_seen c.in_ok-self-inside-in-Head.field-0) (Ok None)) c.self.view_is
    (entered (step_by (phase_seen c.self.inside.phase) (item_seen c.args.said))
    c.in_ok-self-inside-in-Head.field-0
    (rw (c.in-Head.is) (rw (c.replace-head.ensures.value, c.in_ok-self-inside-in-Head.was)
    at c.behind_head.ensures)))
