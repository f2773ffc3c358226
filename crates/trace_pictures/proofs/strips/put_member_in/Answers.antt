use Rattle.edge_io.proofs.Writing.{writes_then}
use Rattle.trace_pictures.proofs.strips.put_member_in.Goals as goal

pub returns : goal.returns
returns g c =
    writes_then c.put_sound_in.ensures (writes_then c.put_share.ensures c.put_arrow_if.ensures)
