use Rattle.std.proofs.Common.{◌∙◌}
use Rattle.node_calls.proofs.Served.{step_whole, step_none, room_is}
use Rattle.node_calls.proofs.steps.step_in.Goals as goal

pub write_state-requires : goal.write_state-requires
write_state-requires g c =
    room_is g.M.Machine.machine c.args.machine c.args.id c.requires _ _
    (c.if-state-bytes_of.false ∙ c.bytes_of.ensures.value) _ _ c.in_ok-engine.ensures _
    c.in-Ok.ensures

pub returns-in-Ok-clause-exact : goal.returns-in-Ok-clause-exact
returns-in-Ok-clause-exact g c =
    step_whole g.M.Machine.machine c.args.machine c.args.id c.requires _ _
    (c.if-state-bytes_of.false ∙ c.bytes_of.ensures.value) _ _ c.in_ok-engine.ensures _ _
    c.in-Ok.ensures c.write_state.ensures

pub returns-clause-exact : goal.returns-clause-exact
returns-clause-exact g c =
    step_none g.M.Machine.machine c.args.machine c.args.id c.requires _ _
    (c.if-state-bytes_of.false ∙ c.bytes_of.ensures.value) _ c.hear.new.engine
    c.in_ok-engine.ensures _ c.in-Err.ensures
