use Rattle.std.proofs.Common.{ℕ, Option, ap, sym}
use Rattle.edge_io.proofs.Writing.{writes_is, writes_none}
use Rattle.sweep.specs.SweepTexts.{line_if}
use Rattle.sweep.proofs.writing.put_line.Goals as goal

pub returns-in_default : goal.returns-in_default
returns-in_default g c =
    writes_is (ap (λ (seed : Option ℕ). line_if c.args.first c.args.locked c.args.found.runs seed)
    (sym c.in_default.is)) writes_none
