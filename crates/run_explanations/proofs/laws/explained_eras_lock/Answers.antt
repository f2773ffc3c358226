use Rattle.run_explanations.proofs.EraLaws as law
use Rattle.run_explanations.proofs.laws.explained_eras_lock.Goals as goal

pub returns : goal.returns
returns c = law.explained_eras_lock c.explained_runs_lock.ensures
