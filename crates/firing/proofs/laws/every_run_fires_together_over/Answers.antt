use Rattle.firing.proofs.FiredTogether as law
use Rattle.firing.proofs.laws.every_run_fires_together_over.Goals as goal

pub returns : goal.returns
returns c end counter = law.fires_together_over _ _
