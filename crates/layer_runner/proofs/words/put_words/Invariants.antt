use Rattle.std.specs.List.{flat_map, range_with_len}
use Rattle.edge_io.specs.Writing.{Writes}
use Rattle.machine_runner.specs.RunTexts.{word_or_star}
use Rattle.layer_runner.proofs.words.put_words.Given as goal

abbrev pub invariant-loop-v : goal.invariant-loop-v
invariant-loop-v g l =
    let p = g.P.Play.position l.play in
    Writes g.K.Sink.told (flat_map
    (word_or_star ((g.L.Lines.wording l.lines).word p.counter p.scene) l.faulty.ids)
    (range_with_len 0 l.v)) l.fn.writer l.writer
