use Rattle.std.proofs.Common.{rules}
use Rattle.plan_finder.specs.Potentials.{StepIsKnown}
use Rattle.plan_finder.proofs.Rising.{one_more}
use Rattle.plan_finder.proofs.lookups.steps_are_known_by.Goals as goal

pub loop-g-preserved : goal.loop-g-preserved
loop-g-preserved c =
    one_more (StepIsKnown c.args.most c.args.pots.now c.args.pot c.args.k) c.loop-g.g
    c.loop-g.invariant (c.step_is_known.ensures.0 (search rules))
