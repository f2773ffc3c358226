use Rattle.layer_runner.proofs.line_laws.fires_as_defined.Goals as goal
use Rattle.layer_runner.proofs.FireLaws as law

pub returns : goal.returns
returns c = law.fires_as_defined
