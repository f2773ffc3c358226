use Rattle.machine_runner.proofs.ReadFor as law
use Rattle.machine_runner.proofs.laws.readers_fit.Goals as goal

pub returns : goal.returns
returns c = law.readers_fit
