use Rattle.std.proofs.Common.{rules}
use Rattle.node_stepper.proofs.Configurations.{begun_kept, begun_room}
use Rattle.node_stepper.proofs.engine.NodeEngine.of_machine.Goals as goal

pub invariant_of-result : goal.invariant_of-result
invariant_of-result g c =
    let many = c.in_ok-since.ensures.len in
    begun_kept _ c.args.id _ _ c.args.state _ _ _ _ _ c.facts.ensures
    c.requires.id c.requires.state c.nodes-nodes.ensures c.depth-depth.ensures
    c.in_ok-states.ensures c.copy_from.ensures (search rules) c.in_ok-next.ensures
    c.in_ok-work.ensures.room

pub copy_from-requires : goal.copy_from-requires
copy_from-requires g c =
    begun_room _ c.args.id _ _ c.args.state _ _ c.facts.ensures c.requires.id
    c.requires.state
    c.nodes-nodes.ensures c.depth-depth.ensures c.in_ok-states.ensures c.index_mut.ensures.value
