-- The first locked configuration of each era, as the lines `locked W` write it.
use Rattle.std.specs.Prelude.{ℕ, ◌+◌, ◌<◌, ◌≤◌, List, length}
use Rattle.sync_types.specs.States.{State}
use Rattle.construction.specs.Plans.{Plan, plan_bound}
use Rattle.counter_core.specs.Overlays.{Layer}
use Rattle.adversary_script.specs.Scripts.{Script}
use Rattle.adversary_script.specs.Eras.{first_of_era, end_of_era}
use Rattle.round_runner.specs.Laws as bare
use Rattle.round_runner.specs.Laws.{IsUpTo}
use Rattle.round_runner.specs.Locks.{IsFirstLocked}
use Rattle.round_runner.specs.Played.{played_at}
use Rattle.run_lines.specs.RunTexts.{lock_of_era}
use Rattle.run_lines.specs.PlayedTexts.{configuration_in}
use Rattle.promises.specs.LayeredEras.{IsReadFor}

-- The W of the line of era j is the era's first locked configuration, and there is none if it has
-- none. If the era reaches the bound, counted from its first configuration, it is there or before.
pub record EraLocks (plan : Plan) (script : Script) (config_at : ℕ → List State) (j : ℕ)
    : Type 0 where
  pub first : IsFirstLocked plan script config_at j script.rounds
      (lock_of_era plan script config_at j)
  pub by_bound : first_of_era script j + plan_bound plan < end_of_era script j
      → IsUpTo (first_of_era script j + plan_bound plan) (lock_of_era plan script config_at j)

-- so it is in each era
abbrev pub LocksAreFirst : Plan → Script → (config_at : ℕ → List State) → Type 0
LocksAreFirst plan script config_at = (j : ℕ) → j ≤ length script.eras
    → EraLocks plan script config_at j

-- of what is played without a layer
abbrev pub PlainErasLock : Type 0
PlainErasLock = (plan : Plan) (script : Script) → bare.IsReadFor plan script
    → LocksAreFirst plan script (played_at plan script)

-- of what is played with a layer, if the nodes began with these things kept
abbrev pub LayeredErasLock : {Kept : Type 0} → Layer Kept → Type 0
LayeredErasLock layer = (plan : Plan) (script : Script) → IsReadFor plan layer script
    → (began : List _) → LocksAreFirst plan script (configuration_in plan script layer began)
