use Rattle.layer_runner.proofs.laws.readers_fit.Goals as goal
use Rattle.layer_runner.proofs.MachinesSettle as law

pub returns : goal.returns
returns c end = law.readers_fit
