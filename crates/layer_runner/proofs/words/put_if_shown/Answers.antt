use Rattle.edge_io.proofs.Writing.{writes_then, writes_last}
use Rattle.layer_runner.proofs.Played.{faulty_ids, shown_line, hidden_line}
use Rattle.layer_runner.proofs.words.put_if_shown.Goals as goal

pub returns-then-shows : goal.returns-then-shows
returns-then-shows g c =
    let faulty = faulty_ids _ _ _ _ _ c.faulty_at.ensures c.script.ensures c.at.ensures in
    let words = rw faulty at c.put_words.ensures in
    shown_line (g.L.Lines.wording c.args.lines.now) (g.P.Play.position c.args.play.now) _
    c.shows.ensures c.if-shows.true
    (writes_then c.put_front.ensures (writes_then words (writes_last c.byte.ensures)))

pub returns-else-shows : goal.returns-else-shows
returns-else-shows g c =
    hidden_line (g.L.Lines.wording c.args.lines.now) (g.P.Play.position c.args.play.now) _
    c.shows.ensures c.if-shows.false
