-- Faulty nodes that a machine tolerates are fewer than its nodes.
use Rattle.std.proofs.Common.{arith}
use Rattle.counting.proofs.Places.{one_fails}
use Rattle.counter_core.proofs.ListsAndPlaces.{places_of_ids}
use Rattle.construction.specs.Runs.{is_in}
use Rattle.node_stepper.specs.RunLaws.{BorneLeavesSome}

pub some_left : BorneLeavesSome
some_left m sound faulty borne =
    let n = m.nodes in
    let quorum = sound.quorum in
    let left =
    one_fails (is_in faulty) n (omega (arith, places_of_ids faulty n, borne.few, quorum)) in
    (left.0, (left.1, left.2))
