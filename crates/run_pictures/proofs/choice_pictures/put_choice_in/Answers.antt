use Rattle.edge_io.proofs.Writing.{writes_then}
use Rattle.run_pictures.proofs.choice_pictures.put_choice_in.Goals as goal

pub returns : goal.returns
returns g c =
    writes_then c.put_front.ensures
    (writes_then c.put_ground.ensures
    (writes_then c.put_heading.ensures
    (writes_then c.put_nodes_axis.ensures
    (writes_then c.put_decades.ensures
    (writes_then (rw c.requires.all at c.put_points.ensures) c.text.ensures)))))
