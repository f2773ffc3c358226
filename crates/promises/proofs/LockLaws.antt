-- The W of the line of each era is its first locked configuration.
use Rattle.std.proofs.Common.{◌≡◌, ℕ, ◌+◌, ◌≤◌, inl, List, length, map, refl, subst, arith}
use Rattle.std.specs.List.{range_with_len}
use Rattle.sync_types.specs.States.{State}
use Rattle.construction.specs.Plans.{Plan, plan_bound}
use Rattle.counter_core.specs.Overlays.{Layer}
use Rattle.adversary_script.specs.Scripts.{Script, IsScript}
use Rattle.adversary_script.specs.Eras.{first_of_era}
use Rattle.round_runner.specs.Laws.{IsUpTo, ErasLock}
use Rattle.round_runner.specs.Locks.{first_locked, era_locked, IsFirstLocked}
use Rattle.round_runner.specs.Played.{played_at}
use Rattle.round_runner.specs.Runners.{Running, IsPlaying}
use Rattle.round_runner.proofs.FirstLocked.{first_is_locked}
use Rattle.machine_runner.proofs.Firsts.{end_within}
use Rattle.round_runner.proofs.LocksKnown.{known_at_end}
use Rattle.round_runner.proofs.ScenesLock.{known_by_bound}
use Rattle.run_lines.specs.RunTexts.{lock_of_era}
use Rattle.run_lines.specs.PlayedTexts.{scene_in, configuration_in}
use Rattle.run_lines.proofs.FirstListed.{first_listed}
use Rattle.run_lines.proofs.LockLines.{lock_at_end}
use Rattle.promises.specs.LayeredEras.{IsReadFor}
use Rattle.promises.specs.Locks.{EraLocks, PlainErasLock, LayeredErasLock}

-- what is listed first is locked first
module _ (plan : Plan) (script : Script) (config_at : ℕ → List State) (whole : IsScript script)
    (j : ℕ) (among : j ≤ length script.eras) where
  same_lock : first_locked (era_locked plan script config_at j) script.rounds
      ≡ lock_of_era plan script config_at j
  same_lock = first_listed (era_locked plan script config_at j) script.rounds

  line_is_first : IsFirstLocked plan script config_at j script.rounds
      (lock_of_era plan script config_at j)
  line_is_first = subst (IsFirstLocked plan script config_at j script.rounds) same_lock
      (first_is_locked plan script config_at whole j script.rounds among (omega arith))

pub plain_eras_lock : ErasLock → PlainErasLock
plain_eras_lock lock plan script is j among =
    let config_at = played_at plan script in
    record {
      first = line_is_first plan script config_at is.whole j among;
      by_bound = λ reaches.
          subst (IsUpTo (first_of_era script j + plan_bound plan))
          (same_lock plan script config_at is.whole j among)
          (lock plan script is j among reaches);
    }

module _ {Kept : Type 0} (layer : Layer Kept) (plan : Plan) (script : Script)
    (is : IsReadFor plan layer script) (began : List Kept) where
  abbrev config_at : ℕ → List State
  config_at = configuration_in plan script layer began

  -- a runner that has played the script to its end
  abbrev ended : Running (Layer Kept)
  ended = record {
    plan = plan;
    script = script;
    overlay = layer;
    at = script.rounds;
    states = config_at script.rounds;
    locks = map (λ i. first_locked (era_locked plan script config_at i) script.rounds)
        (range_with_len 0 (length script.eras + 1));
  }

  abbrev kept_there : Layer Kept → List Kept
  kept_there overlay = (scene_in plan script layer began script.rounds).kept

  plays : IsPlaying (λ overlay. overlay) kept_there began ended
  plays = record { scene = refl; locks = refl }

  pub era_locks : (j : ℕ) → j ≤ length script.eras → EraLocks plan script config_at j
  era_locks j among = record {
    first = line_is_first plan script config_at is.whole j among;
    by_bound = λ reaches.
        subst (IsUpTo (first_of_era script j + plan_bound plan))
        (lock_at_end (λ overlay. overlay) kept_there began ended j _
        (known_at_end (λ overlay. overlay) kept_there ended is.whole (omega arith) j among began
        plays (inl refl)))
        (known_by_bound (λ overlay. overlay) kept_there ended is.whole (omega arith) j among
        is.accepted is.right is.sound began plays reaches
        (end_within script is.whole j (first_of_era script j + plan_bound plan) among reaches));
  }

pub layered_eras_lock : {Kept : Type 0} (layer : Layer Kept) → LayeredErasLock layer
layered_eras_lock layer plan script is began j among =
    era_locks layer plan script is began j among
