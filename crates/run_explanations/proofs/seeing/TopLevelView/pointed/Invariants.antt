use Rattle.std.proofs.Common.{◌≡◌, ◌-◌}
use Rattle.construction.specs.Plans.{plan_depth}
use Rattle.construction.specs.Runs.{is_in}
use Rattle.run_explanations.specs.Explanations.{outputs_in}
use Rattle.run_explanations.specs.Seeing.{pointed}
use Rattle.run_explanations.proofs.seeing.TopLevelView.pointed.Given as goal

-- those of the blocks so far
abbrev pub invariant-loop-i : goal.invariant-loop-i
invariant-loop-i l = l.shared ≡ pointed l.self.top.numbers (is_in l.self.faulty.now.ids)
    (outputs_in (plan_depth l.self.runner.now.plan - 1) l.self.runner.now.states) l.i
