use Rattle.machine_runner.proofs.Plays as law
use Rattle.machine_runner.proofs.laws.scripts_are_played.Goals as goal

pub returns : goal.returns
returns c = law.scripts_are_played
