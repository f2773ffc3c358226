use Rattle.layer_laws.proofs.laws.eras_are_runs_over.Goals as goal
use Rattle.layer_laws.proofs.CounterEras as law

pub returns : goal.returns
returns c end counter layer = law.eras_are_runs_over layer _ _
