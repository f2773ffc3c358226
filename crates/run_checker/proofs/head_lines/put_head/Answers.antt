use Rattle.edge_io.proofs.Writing.{writes_then, writes_last}
use Rattle.run_checker.proofs.head_lines.put_head.Goals as goal

pub returns : goal.returns
returns g c =
    let version = rw c.recorded_version-version.ensures at c.put_version.ensures in
    let levels = rw c.recorded_version-version.ensures at c.put_levels.ensures in
    let faulty = rw c.faulty_at.ensures at c.put_faulty.ensures in
    writes_then version (writes_then c.put_base.ensures (writes_then levels (writes_last faulty)))
