-- Which configuration of each era is the first locked one, by any test for locked.
use Rattle.std.specs.Prelude.{ℕ, ◌+◌, List, Option, position}
use Rattle.std.specs.List.{range_with_len}
use Rattle.sync_types.specs.States.{State}
use Rattle.adversary_script.specs.Scripts.{Script}
use Rattle.machine_runner.specs.FirstLocked.{LockTest, era_locked}
use Rattle.machine_runner.specs.RunTexts as texts

module _ (locked : LockTest) (script : Script) (config_at : ℕ → List State) where
  -- The first locked configuration of era j among those that are played. It stands at its own place
  -- among the numbers from 0 on.
  abbrev pub lock_of_era : (j : ℕ) → Option ℕ
  lock_of_era j =
      position (era_locked locked script config_at j) (range_with_len 0 (script.rounds + 1))

  abbrev pub era_line : (j : ℕ) → List ℕ
  era_line j = texts.era_line script lock_of_era j

  -- for a script of version 1 one line, else one for each era
  abbrev pub lock_lines : List ℕ
  lock_lines = texts.lock_lines script lock_of_era
