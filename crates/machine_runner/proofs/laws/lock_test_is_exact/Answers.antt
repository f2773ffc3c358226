use Rattle.machine_runner.proofs.Locked as law
use Rattle.machine_runner.proofs.laws.lock_test_is_exact.Goals as goal

pub returns : goal.returns
returns c = law.lock_test_is_exact
