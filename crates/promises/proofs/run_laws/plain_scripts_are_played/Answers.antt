use Rattle.promises.proofs.run_laws.plain_scripts_are_played.Goals as goal
use Rattle.promises.proofs.PlainRuns as law

pub returns : goal.returns
returns c = law.plain_scripts_are_played c.eras_are_runs.ensures
