use Rattle.std.proofs.Common.{sym, ap, ◌∙◌, rules}
use Rattle.edge_io.specs.Writing.{Writes}
use Rattle.edge_io.proofs.Writing.{writes_then, writes_last, writes_more, writes_is, writes_all}
use Rattle.machine_runner.specs.RunTexts.{bound_line}
use Rattle.layer_runner.specs.PlayedTexts.{text_of}
use Rattle.layer_runner.proofs.Played.{locks_after}
use Rattle.layer_runner.proofs.playing.put_played.Goals as goal
use Rattle.layer_runner.proofs.playing.put_played.Goals.{
  then-not-has_failed,
  else-not-has_failed,
}

pub returns : goal.returns
returns g c =
    let p = g.P.Play.position c.args.play.now in
    let lines = c.put_lines.ensures in
    let bound = writes_is (ap bound_line c.bound.ensures) c.put_bound.ensures in
    let wrote = elim c.if-not-has_failed.branch as
    (λ _. Writes g.K.Sink.told (text_of (g.L.Lines.wording c.args.lines.now) p)
    c.new-writer.result c.if-not-has_failed.writer) [
      | then-not-has_failed w ↦
          rw w.writer-is (writes_then bound
          (writes_then lines.lines (writes_last
          (writes_is (locks_after p _
          (lines.played (sym c.has_failed.ensures ∙ w.if-not-has_failed.true)))
          w.put_locks.ensures))))
      | else-not-has_failed w ↦
          rw w.writer-is (writes_then bound
          (writes_more _ (sym c.has_failed.ensures ∙ w.if-not-has_failed.false) lines.lines))
    ] in
    writes_all c.new-writer.ensures wrote c.finish.ensures (search rules)
