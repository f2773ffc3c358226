use Rattle.edge_io.proofs.Writing.{writes_then}
use Rattle.run_checker.proofs.Recording.{faulty_ids}
use Rattle.run_checker.proofs.row_lines.put_row.Goals as goal

pub returns : goal.returns
returns g c =
    let front = rw c.at.ensures at c.pieces.ensures in
    let faulty = faulty_ids _ _ _ _ _ c.faulty_at.ensures c.script.ensures c.at-2.ensures in
    let words = rw faulty at c.put_words.ensures in
    writes_then front (writes_then words c.text.ensures)
