use Rattle.std.proofs.Common.{subst}
use Rattle.plan_finder.specs.Costs.{Reaches}
use Rattle.plan_finder.specs.Best.{IsBestOf}
use Rattle.plan_finder.proofs.Sets.{front_room}
use Rattle.plan_finder.proofs.searching.stepped.Goals as goal

pub with-requires-clause-room : goal.with-requires-clause-room
with-requires-clause-room c =
    let is = subst (IsBestOf (Reaches c.args.most c.args.n c.args.f)) c.in-Some.is
    c.requires.front in
    front_room c.args.most c.args.n c.args.f c.args.last.step.blocks c.in-Some.best is
    c.args.last.few_blocks.0 c.requires.nodes.1 c.requires.nodes.2
