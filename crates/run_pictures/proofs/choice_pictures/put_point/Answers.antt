use Rattle.edge_io.proofs.Writing.{writes_then}
use Rattle.run_pictures.proofs.choice_pictures.put_point.Goals as goal

pub returns : goal.returns
returns g c =
    writes_then c.text.ensures
    (writes_then c.put_point_words.ensures (writes_then c.put_mark.ensures c.put_numbers.ensures))
