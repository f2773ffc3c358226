use Rattle.edge_io.proofs.Writing.{writes_then}
use Rattle.trace_pictures.proofs.strips.put_register_in.Goals as goal

pub returns : goal.returns
returns g c =
    writes_then c.put_rectangle.ensures
    (writes_then c.put_register_ground.ensures
    (writes_then c.put_cover.ensures c.put_value.ensures))
