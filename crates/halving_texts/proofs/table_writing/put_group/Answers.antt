use Rattle.std.proofs.Common.{◌≡◌, ◌<◌, true, false, arith}
use Rattle.std.specs.Prelude.{◌==◌}
use Rattle.edge_io.proofs.Writing.{writes_then}
use Rattle.halving_texts.proofs.GroupLines.{is_alone, is_more}
use Rattle.halving_texts.proofs.table_writing.put_group.Goals as goal

pub returns-then-faults-eq0 : goal.returns-then-faults-eq0
returns-then-faults-eq0 g c =
    let group = c.args.group.now in
    let alone : (group.faults == 0) ≡ true = is_alone group.faults (omega arith) in
    rw alone (writes_then c.put_group_front.ensures c.text.ensures)

pub returns-else-faults-eq0 : goal.returns-else-faults-eq0
returns-else-faults-eq0 g c =
    let group = c.args.group.now in
    let some : 0 < group.faults = omega arith in
    let more : (group.faults == 0) ≡ false = is_more group.faults some in
    rw more (writes_then c.put_group_front.ensures c.put_halves_end.ensures)
