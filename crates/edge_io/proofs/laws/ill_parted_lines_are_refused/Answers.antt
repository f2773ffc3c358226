use Rattle.texts.proofs.IllParted.{line_refused, part_refused}
use Rattle.edge_io.proofs.laws.ill_parted_lines_are_refused.Goals as goal

pub returns : goal.returns
returns g c = record { line = line_refused _ _ _; part = part_refused _ _ _ }
