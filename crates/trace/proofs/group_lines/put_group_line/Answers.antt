use Rattle.std.proofs.Common.{ap}
use Rattle.edge_io.proofs.Writing.{writes_is, writes_then}
use Rattle.halving_plan.specs.LevelStates.{LevelState}
use Rattle.trace.specs.GroupTexts.{group_front, held_part, heard_if}
use Rattle.trace.proofs.group_lines.put_group_line.Goals as goal

pub returns : goal.returns
returns g c =
    let seen = c.args.seen.now in
    let view = seen.view.now in
    let ids = view.faulty.now.ids in
    writes_then (writes_is
    (ap (λ (p : LevelState). group_front view.heading ids view.config.now
    (record { side = seen.side; group = seen.group }) p.register) c.own_in-own.ensures)
    c.put_front.ensures)
    (writes_then (writes_is (ap (held_part seen.group ids) c.own_in-own.ensures)
    c.put_held.ensures)
    (writes_then (writes_is
    (ap (λ (p : LevelState). heard_if view.hears seen.group p seen.heard.now) c.own_in-own.ensures)
    c.put_heard_if.ensures) c.byte.ensures))
