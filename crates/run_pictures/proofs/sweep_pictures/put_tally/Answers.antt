use Rattle.edge_io.proofs.Writing.{writes_then}
use Rattle.run_pictures.proofs.sweep_pictures.put_tally.Goals as goal

pub returns : goal.returns
returns g c =
    writes_then c.put_axis_if.ensures (writes_then c.put_bar.ensures c.put_worst_if.ensures)
