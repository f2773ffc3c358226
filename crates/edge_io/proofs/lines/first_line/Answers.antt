use Rattle.std.proofs.Common.{sym}
use Rattle.std.proofs.lemmas.List.{take_rest}
use Rattle.texts.proofs.Lines.{line_at, line_to_end}
use Rattle.edge_io.proofs.lines.first_line.Goals as goal

pub returns-in-Some-clause-line : goal.returns-in-Some-clause-line
returns-in-Some-clause-line c =
    rw take_rest (line_at c.args.text.now c.in-Some.end c.requires (sym c.in-Some.ensures))

pub returns-in-None-clause-line : goal.returns-in-None-clause-line
returns-in-None-clause-line c = line_to_end c.args.text.now c.requires (sym c.in-None.ensures)
