use Rattle.std.proofs.Common.{arith}
use Rattle.halving_plan.proofs.Sound.{nodes_are}
use Rattle.halving_plan.proofs.Kept.{node_is, can_hear}
use Rattle.halving_plan.proofs.halving_machines.HalvingMachineMachine.advance.Goals as goal

pub advance-requires-clause-node : goal.advance-requires-clause-node
advance-requires-clause-node c =
    node_is _ c.self.invariant.accepted _ (rw (← c.self.view_is) at c.requires.node)

pub advance-requires-clause-heard : goal.advance-requires-clause-heard
advance-requires-clause-heard c =
    can_hear _ c.self.invariant.accepted _ (rw (← c.self.view_is) at c.requires.heard)

pub advance-requires-clause-room : goal.advance-requires-clause-room
advance-requires-clause-room c =
    let work = rw (← c.self.view_is) at c.requires.work in
    let room = work.values in
    omega (arith, nodes_are _ c.self.invariant.accepted, room)
