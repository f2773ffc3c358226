use Rattle.part_lines.proofs.TakenLines.{refused_line}
use Rattle.part_lines.proofs.laws.refusals_are_first.Goals as goal

pub returns : goal.returns
returns g c = refused_line _ _ _
