use Rattle.layer_runner.proofs.line_laws.scripts_are_played_over.Goals as goal
use Rattle.layer_runner.proofs.PlayedScripts as law

pub returns : goal.returns
returns c end = law.scripts_are_played_over
