use Rattle.run_explanations.proofs.EraLaws as law
use Rattle.run_explanations.proofs.laws.long_eras_are_explained.Goals as goal

pub returns : goal.returns
returns c = law.long_eras_are_explained c.bound_is_explained.ensures
