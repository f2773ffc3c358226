use Rattle.promises.proofs.run_laws.lines_fire_together.Goals as goal
use Rattle.promises.proofs.Lines as law

pub returns : goal.returns
returns c = law.lines_fire_together
