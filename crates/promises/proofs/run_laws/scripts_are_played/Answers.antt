use Rattle.promises.proofs.run_laws.scripts_are_played.Goals as goal
use Rattle.promises.proofs.EraRuns as law

pub returns : goal.returns
returns c end = law.scripts_are_played
