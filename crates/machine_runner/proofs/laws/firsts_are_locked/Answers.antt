use Rattle.machine_runner.proofs.FirstLocked as law
use Rattle.machine_runner.proofs.laws.firsts_are_locked.Goals as goal

pub returns : goal.returns
returns c = law.firsts_are_locked
