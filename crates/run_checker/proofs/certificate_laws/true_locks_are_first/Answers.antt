use Rattle.run_checker.proofs.certificate_laws.true_locks_are_first.Goals as goal
use Rattle.run_checker.proofs.TrueLocks as law

pub returns : goal.returns
returns c = law.true_locks_are_first c.lock_test_is_exact.ensures c.locks_at_bound.ensures
    c.locked_runs_count.ensures
