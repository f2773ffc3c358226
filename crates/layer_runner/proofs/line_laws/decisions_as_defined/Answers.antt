use Rattle.layer_runner.proofs.line_laws.decisions_as_defined.Goals as goal
use Rattle.layer_runner.proofs.DecisionLaws as law

pub returns : goal.returns
returns c = law.decisions_as_defined
