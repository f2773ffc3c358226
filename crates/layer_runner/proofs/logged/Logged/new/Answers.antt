use Rattle.std.proofs.Common.{arith}
use Rattle.replicated_log.specs.EntryLength.{entry_length}
use Rattle.layer_runner.proofs.EntryRooms.{room_for_one}
use Rattle.layer_runner.proofs.logged.Logged.new.Goals as goal

pub invariant_of-result-clause-room : goal.invariant_of-result-clause-room
invariant_of-result-clause-room c =
    let numbers = c.args.numbers.now in
    let two = c.facts.ensures.least in
    let quorum = c.facts.ensures.quorum in
    let modulus = c.modulus.ensures in
    let faults = c.faults.ensures in
    let room = room_for_one numbers.modulus numbers.nodes (entry_length numbers.faults)
    (omega (arith, two)) (omega (arith, quorum)) c.requires in
    omega (arith, room, modulus, faults)
