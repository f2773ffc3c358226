use Rattle.firing.proofs.laws.every_run_fires_together.Goals as goal
use Rattle.firing.proofs.FiredTogether as law

pub returns : goal.returns
returns c = law.fires_together
