use Rattle.std.proofs.Common.{◌<◌, take, All, sym, ap, ◌∙◌, subst, arith}
use Rattle.std.specs.List.{flat_map}
use Rattle.std.proofs.lemmas.List.{take_all}
use Rattle.std.proofs.lemmas.List.Elements.{All-take}
use Rattle.round_runner.specs.Locks.{correct_nodes}
use Rattle.run_checker.proofs.BodyKept.{Below, senders_below}
use Rattle.run_checker.proofs.Ranges.{flat_more}
use Rattle.run_checker.proofs.Rooms.{room_for_row}
use Rattle.run_checker.proofs.ToldPlaces.{row_of}
use Rattle.run_checker.proofs.tellings.take_pairs.Goals as goal

pub add_pairs-requires : goal.add_pairs-requires
add_pairs-requires c =
    let h = c.loop-i.invariant in
    let row = room_for_row c.args.faulty.now.nodes c.args.faulty.now.ids c.loop-i.i
    c.loop-i.pairs.items (omega (arith, c.loop-i-test.true, c.len-i-end.ensures.exact)) h.pairs in
    omega (arith, row, c.requires, h.room)

pub loop-i-preserved : goal.loop-i-preserved
loop-i-preserved c =
    let h = c.loop-i.invariant in
    record {
      pairs = c.add_pairs.ensures.pairs
          ∙ flat_more (row_of (correct_nodes c.args.faulty.now.nodes c.args.faulty.now.ids))
          c.args.faulty.now.ids c.loop-i.i _
          c.loop-i.pairs.items (omega (arith, c.loop-i-test.true, c.len-i-end.ensures.exact))
          c.at.ensures.id h.pairs;
      room = omega (arith, c.add_pairs.ensures.room, h.room);
    }

pub returns-clause-pairs : goal.returns-clause-pairs
returns-clause-pairs c =
    c.loop-i.invariant.pairs
    ∙ ap (flat_map (row_of (correct_nodes c.args.faulty.now.nodes c.args.faulty.now.ids)))
    (take_all c.loop-i.i c.args.faulty.now.ids
    (omega (arith, c.loop-i-test.false, c.len-i-end.ensures.exact)))

pub returns-clause-senders : goal.returns-clause-senders
returns-clause-senders c =
    subst (All (Below c.args.faulty.now.nodes)) (sym c.loop-i.invariant.pairs)
    (senders_below c.args.faulty.now.nodes
    (correct_nodes c.args.faulty.now.nodes c.args.faulty.now.ids)
    (take c.loop-i.i c.args.faulty.now.ids)
    (All-take (λ id. id < c.args.faulty.now.nodes) c.loop-i.i c.args.faulty.now.ids
    c.facts.ensures.below))
