use Rattle.run_lines.proofs.laws.decisions_as_defined.Goals as goal
use Rattle.run_lines.proofs.DecisionLaws as law

pub returns : goal.returns
returns c = law.decisions_as_defined
