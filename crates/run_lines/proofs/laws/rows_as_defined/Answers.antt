use Rattle.run_lines.proofs.laws.rows_as_defined.Goals as goal
use Rattle.run_lines.proofs.ShownLaws as law

pub returns : goal.returns
returns c = law.rows_as_defined
