use Rattle.std.proofs.Common.{◌≡◌, ◌-◌}
use Rattle.construction.specs.Plans.{plan_depth}
use Rattle.construction.specs.Runs.{is_in}
use Rattle.run_explanations.specs.declared.seeing.Shared.TheVariants.{Nothing}
use Rattle.run_explanations.specs.Explanations.{outputs_in}
use Rattle.run_explanations.specs.Seeing.{shared_by, is_correct, part_at}
use Rattle.run_explanations.proofs.seeing.TopLevelView.parted.Given as goal

-- those so far
abbrev pub invariant-loop-j : goal.invariant-loop-j
invariant-loop-j l =
    l.shared ≡ shared_by Nothing (is_correct l.self.top.numbers (is_in l.self.faulty.now.ids) l.b)
    (part_at l.self.top.numbers
    (outputs_in (plan_depth l.self.runner.now.plan - 1) l.self.runner.now.states) l.b)
    l.j
