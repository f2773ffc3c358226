use Rattle.std.proofs.Common.{ℕ, List, ◌++◌, ap}
use Rattle.std.specs.Prelude.{decimal}
use Rattle.edge_io.proofs.Writing.{writes_then, writes_last, writes_is}
use Rattle.machine_runner.proofs.words.Shown.put_line.Goals as goal

pub returns : goal.returns
returns g c =
    writes_then
    (writes_is (ap (λ (label : List ℕ). label ++ decimal c.args.self.now.t) c.label.ensures)
    c.labelled.ensures) (writes_then c.put_words.ensures (writes_last c.byte.ensures))
