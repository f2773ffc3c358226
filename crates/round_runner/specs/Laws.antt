-- What holds of the configurations that are played of a script that was read for an accepted plan.
use Rattle.std.specs.Prelude.{◌≡◌, ℕ, ◌+◌, ◌<◌, ◌≤◌, ◌↔◌, List, [], length, true}
use Rattle.sync_types.specs.States.{State}
use Rattle.construction.specs.Plans.{Plan, plan_modulus, plan_bound}
use Rattle.construction.specs.Runs.{Run, Round, AllShow, IsLocked}
use Rattle.plan_numbers.specs.Premises.{IsAccepted}
use Rattle.state_codec.specs.Shapes.{shape_of}
use Rattle.counter_core.specs.declared.overlays.NoOverlay.{NoOverlay}
use Rattle.counter_core.specs.NoLayers.{no_layer}
use Rattle.adversary_script.specs.Scripts.{Script, IsScript}
use Rattle.adversary_script.specs.Eras.{first_of_era, end_of_era, faulty_of_era, faulty_at}
use Rattle.adversary_script.specs.ScriptPart.{IsScriptForPlan}
use Rattle.machine_runner.specs.Eras as any
pub use Rattle.machine_runner.specs.Laws.{IsUpTo, IsOfOneEra, EachIsOfOneEra}
use Rattle.round_runner.specs.Locks.{is_locked, first_locked, era_locked}
use Rattle.round_runner.specs.Played.{played_at, era_run, lies_at}
use Rattle.round_runner.specs.Runners.{Running, IsPlaying}

-- a script that was read for an accepted plan
pub record IsReadFor (plan : Plan) (script : Script) : Type 0 where
  pub accepted : IsAccepted plan
  pub right : IsScriptForPlan plan (shape_of plan) script
  pub whole : IsScript script

-- What is played of era j is a run of the plan with that era's faulty nodes, and each of its rounds
-- has what they tell as its table of lies.
pub record EraIsRun (plan : Plan) (script : Script) (j : ℕ) : Type 0 where
  pub run : Run plan (faulty_of_era script j) (era_run plan script j)
  pub rounds : (t : ℕ) → first_of_era script j ≤ t → t + 1 < end_of_era script j
      → Round plan (faulty_of_era script j) (played_at plan script t)
      (lies_at script t (played_at plan script t)) (played_at plan script (t + 1))

-- From that configuration to the end of era j all nodes that are correct in it show one number,
-- which grows by one modulo C.
abbrev pub EraCountsFrom : Plan → Script → (j from : ℕ) → Type 0
EraCountsFrom plan script j from =
    any.EraCounts (AllShow plan) (plan_modulus plan) script (played_at plan script) j from

-- from that configuration to the end of era j each one is locked, and they count
abbrev pub EraStaysLocked : Plan → Script → (j from : ℕ) → Type 0
EraStaysLocked plan script j from =
    any.EraStaysLocked (AllShow plan) (plan_modulus plan) script (played_at plan script) j from
    (IsLocked plan)

-- What is played of each era is a run, with the script's lies.
abbrev pub ErasAreRuns : Type 0
ErasAreRuns = (plan : Plan) (script : Script) → IsReadFor plan script
    → (j : ℕ) → j ≤ length script.eras → EraIsRun plan script j

-- If an era reaches the bound, it has a first locked configuration, at the bound or before.
abbrev pub ErasLock : Type 0
ErasLock = (plan : Plan) (script : Script) → IsReadFor plan script → (j : ℕ)
    → j ≤ length script.eras
    → first_of_era script j + plan_bound plan < end_of_era script j
    → IsUpTo (first_of_era script j + plan_bound plan)
    (first_locked (era_locked plan script (played_at plan script) j) script.rounds)

-- The outputs count from the bound on, in each era to its end.
abbrev pub ErasCount : Type 0
ErasCount = (plan : Plan) (script : Script) → IsReadFor plan script → (j : ℕ)
    → j ≤ length script.eras
    → EraCountsFrom plan script j (first_of_era script j + plan_bound plan)

-- What is locked stays locked and counts, to the end of its era, before the bound too.
abbrev pub ErasStayLocked : Type 0
ErasStayLocked = (plan : Plan) (script : Script) → IsReadFor plan script → (j : ℕ)
    → j ≤ length script.eras
    → (t : ℕ) → first_of_era script j ≤ t → t < end_of_era script j
    → IsLocked plan (faulty_at script t) (played_at plan script t) → EraStaysLocked plan script j t

-- The test for locked passes just the locked configurations.
abbrev pub LockTestIsExact : Type 0
LockTestIsExact = (plan : Plan) (faulty : List ℕ) (config : List State)
    → (is_locked plan faulty config ≡ true) ↔ IsLocked plan faulty config

-- A runner without a layer that plays its script is at the configuration that is played.
abbrev pub BareRunnersArePlayed : Type 0
BareRunnersArePlayed = (r : Running NoOverlay) → IsPlaying (λ o. no_layer) (λ o. []) [] r
    → r.states ≡ played_at r.plan r.script r.at
