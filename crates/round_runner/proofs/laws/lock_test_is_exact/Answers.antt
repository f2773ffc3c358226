use Rattle.round_runner.proofs.Locked as laws
use Rattle.round_runner.proofs.laws.lock_test_is_exact.Goals as goal

pub returns : goal.returns
returns c = laws.lock_test_is_exact
