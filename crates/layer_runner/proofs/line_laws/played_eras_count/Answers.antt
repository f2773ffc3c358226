use Rattle.layer_runner.proofs.line_laws.played_eras_count.Goals as goal
use Rattle.layer_runner.proofs.EraCounting as law

pub returns : goal.returns
returns c end counter layer = law.played_eras_count layer _ _
