use Rattle.std.proofs.Common.{ap, ◌∙◌}
use Rattle.sync_types.specs.States.{zero_state}
use Rattle.halving_plan.specs.GroupHearing.{level_state_in}
use Rattle.counter_core.proofs.StateLists.{within}
use Rattle.trace.proofs.group_lines.own_in.Goals as goal

pub returns : goal.returns
returns c =
    let view = c.args.seen.now.view.now in
    c.read.ensures
    ∙ ap (level_state_in c.args.seen.now.group)
    (within view.config.now view.heading.node c.index-view-view.result (zero_state 0) view.node)
