use Rattle.sweep.proofs.SweepLaws as law
use Rattle.sweep.proofs.laws.sweeps_count_runs.Goals as goal

pub returns : goal.returns
returns c = law.sweeps_count_runs
