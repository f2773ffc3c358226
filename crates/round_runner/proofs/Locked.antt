-- The test of a locked configuration says what it means.
use Rattle.std.proofs.Common.{◌≡◌, ℕ, true, List, [], ◌∷◌, length, refl}
use Rattle.sync_types.specs.States.{State}
use Rattle.construction.specs.Plans.{Level, nodes_of}
use Rattle.construction.specs.Runs.{IsLockedIn}
use Rattle.machine_runner.proofs.Locked.{locked_all, all_locked}
use Rattle.round_runner.specs.Locks.{is_locked_in}
use Rattle.round_runner.specs.Laws.{LockTestIsExact}

-- a configuration that passes is locked
locked_is : (levels : List Level) (faulty : List ℕ) (config : List State)
    → is_locked_in levels faulty config ≡ true → IsLockedIn levels faulty config
locked_is [] faulty config is = tt
locked_is (level ∷ below) faulty config is =
    locked_all (length below) (nodes_of (level ∷ below)) faulty config is

-- and one that is locked passes
is_locked_true : (levels : List Level) (faulty : List ℕ) (config : List State)
    → IsLockedIn levels faulty config → is_locked_in levels faulty config ≡ true
is_locked_true [] faulty config is = refl
is_locked_true (level ∷ below) faulty config is =
    all_locked (length below) (nodes_of (level ∷ below)) faulty config is

pub lock_test_is_exact : LockTestIsExact
lock_test_is_exact plan faulty config = (
  locked_is plan.levels faulty config,
  is_locked_true plan.levels faulty config,
)
