use Rattle.std.specs.List.{flat_map, range_with_len}
use Rattle.adversary_script.specs.Eras.{faulty_at}
use Rattle.edge_io.specs.Writing.{Writes}
use Rattle.machine_runner.specs.RunTexts.{word_or_star}
use Rattle.machine_runner.specs.ShownTexts.{word_at}
use Rattle.machine_runner.proofs.words.Shown.put_words.Given as goal

abbrev pub invariant-loop-v : goal.invariant-loop-v
invariant-loop-v g l =
    let r = l.self.runner.now in
    Writes g.K.Sink.told (flat_map (word_or_star
    (word_at (g.L.ShownLines.front l.lines) (g.L.ShownLines.word l.lines)
    (g.M.Machine.machine r.machine) r.script l.self.t)
    (faulty_at r.script l.self.t)) (range_with_len 0 l.v)) l.fn.writer l.writer
