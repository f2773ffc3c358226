use Rattle.std.proofs.Common.{ℕ, ◌<◌, List, subst, sym, arith}
use Rattle.edge_io.specs.Writing.{Writes}
use Rattle.edge_io.proofs.Writing.{writes_is, writes_then}
use Rattle.halving_plan.specs.Groups.{HalvingGroup}
use Rattle.halving_texts.specs.Tables.{group_lines}
use Rattle.halving_texts.proofs.GroupLines.{lines_of_halves}
use Rattle.halving_texts.proofs.table_writing.+put_groups.Goals as goal

pub returns : goal.returns
returns g t c =
    let group = c.args.group.now in
    let some : 0 < group.faults = omega arith in
    writes_is (sym (lines_of_halves group some))
    (writes_then c.put_group.ensures
    (writes_then (rw c.left.ensures at c.put_groups.ensures)
    (rw c.right.ensures at c.put_groups-2.ensures)))
