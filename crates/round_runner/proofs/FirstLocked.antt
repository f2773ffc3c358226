-- The first configuration of an era that passes the test is its first locked one.
use Rattle.std.proofs.Common.{◌≡◌, ℕ, ◌≤◌, true, List, length}
use Rattle.sync_types.specs.States.{State}
use Rattle.construction.specs.Plans.{Plan}
use Rattle.construction.specs.Runs.{IsLocked}
use Rattle.adversary_script.specs.Scripts.{Script, IsScript}
use Rattle.adversary_script.specs.Eras.{era_of, faulty_of_era}
use Rattle.machine_runner.proofs.FirstLocked as any
use Rattle.round_runner.specs.Locks.{is_locked, first_locked, era_locked, IsFirstLocked}
use Rattle.round_runner.proofs.Locked.{lock_test_is_exact}

module _ (plan : Plan) (script : Script) (config_at : ℕ → List State) (whole : IsScript script)
    (j at : ℕ) (among : j ≤ length script.eras) (within : at ≤ script.rounds) where
  pub passes : (t : ℕ) → era_of script t ≡ j → IsLocked plan (faulty_of_era script j) (config_at t)
      → era_locked plan script config_at j t ≡ true
  passes = any.passes (is_locked plan) (IsLocked plan) (lock_test_is_exact plan) script config_at
      whole j at among within

  pub first_is_locked : IsFirstLocked plan script config_at j at
      (first_locked (era_locked plan script config_at j) at)
  first_is_locked = any.first_is_locked (is_locked plan) (IsLocked plan) (lock_test_is_exact plan)
      script config_at whole j at among within
