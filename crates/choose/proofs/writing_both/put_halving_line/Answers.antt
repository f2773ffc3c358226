use Rattle.edge_io.proofs.Writing.{writes_then}
use Rattle.choose.proofs.writing_both.put_halving_line.Goals as goal

pub returns : goal.returns
returns g c = writes_then c.put_halving_numbers.ensures c.put_halving_part.ensures
