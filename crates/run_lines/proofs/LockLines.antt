-- The lines of the first locked configurations, of a runner that knows them.
use Rattle.std.proofs.Common.{◌≡◌, ℕ, ◌≤◌, List, Option, None, ◌∙◌}
use Rattle.std.specs.Prelude.{slice_index_or}
use Rattle.sync_types.specs.States.{State}
use Rattle.counter_core.specs.Overlays.{Layer}
use Rattle.adversary_script.specs.Scripts.{IsScript}
use Rattle.round_runner.specs.Known.{KnowsLocks}
use Rattle.round_runner.specs.Locks.{first_locked, era_locked}
use Rattle.round_runner.specs.Runners.{Running, IsPlaying, configuration_of}
use Rattle.machine_runner.specs.RunTexts as texts
use Rattle.layer_runner.proofs.LockLines.{same_locks}
use Rattle.run_lines.specs.RunTexts.{lock_of_era, lock_lines}
use Rattle.round_runner.proofs.LocksKnown.{known_at_end}
use Rattle.run_lines.proofs.FirstListed.{first_listed}

module _ {O Kept : Type 0} (layer : O → Layer Kept) (kept : O → List Kept) (began : List Kept)
    (r : Running O) where
  abbrev config_at : ℕ → List State
  config_at = configuration_of layer began r

  -- what is the first locked one of era j at the end is listed as that
  pub lock_at_end : (j : ℕ) (known : Option ℕ)
      → known ≡ first_locked (era_locked r.plan r.script config_at j) r.script.rounds
      → known ≡ lock_of_era r.plan r.script config_at j
  lock_at_end j known is =
      is ∙ first_listed (era_locked r.plan r.script config_at j) r.script.rounds

  -- so the lines of what it knows then are those of what is played
  pub locks_known : IsScript r.script → r.at ≤ r.script.rounds → IsPlaying layer kept began r
      → KnowsLocks r
      → texts.lock_lines r.script (λ j. slice_index_or r.locks j None)
      ≡ lock_lines r.plan r.script config_at
  locks_known whole within plays knows =
      same_locks r.script (λ j. slice_index_or r.locks j None)
      (lock_of_era r.plan r.script config_at)
      (λ j among. lock_at_end j (slice_index_or r.locks j None)
      (known_at_end layer kept r whole within j among began plays knows))
