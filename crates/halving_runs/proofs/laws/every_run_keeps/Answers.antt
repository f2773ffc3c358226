use Rattle.halving_runs.proofs.EveryRun as law
use Rattle.halving_runs.proofs.laws.every_run_keeps.Goals as goal

pub returns : goal.returns
returns c = law.every_run_keeps
