-- What a runner knows of an era is its first locked configuration; if it reached the bound in the
-- era, there is one, at the bound or before.
use Rattle.std.proofs.Common.{◌≡◌, ℕ, ◌+◌, ◌<◌, ◌≤◌, List, [], ◌∷◌, length, map, Option, None, sym}
use Rattle.std.proofs.Common.{ap, ◌∙◌, subst, arith}
use Rattle.std.specs.Prelude.{slice_index_or}
use Rattle.std.proofs.lemmas.List.{get_or-take}
use Rattle.sync_types.specs.States.{State, register_at, zero_register}
use Rattle.construction.specs.Plans.{Level, Plan, plan_bound}
use Rattle.construction.specs.Steps.{state_of}
use Rattle.construction.specs.Runs.{IsToleratedBy, IsLocked, IsLockedIn}
use Rattle.plan_numbers.specs.Premises.{IsAccepted}
use Rattle.plan_laws.proofs.Ranges.{state_of-cut}
use Rattle.plan_laws.proofs.RunLaws.{locks_at_bound}
use Rattle.counter_core.specs.Meanings.{cut}
use Rattle.counter_core.specs.Overlays.{Layer}
use Rattle.state_codec.specs.Shapes.{IsShape}
use Rattle.adversary_script.specs.Scripts.{Script, IsScript}
use Rattle.adversary_script.specs.Eras.{first_of_era, end_of_era, faulty_of_era}
use Rattle.round_runner.specs.Laws.{IsUpTo}
use Rattle.round_runner.specs.Locks.{is_locked, first_locked, era_locked, IsFirstLocked}
use Rattle.round_runner.specs.Runners.{Running, IsPlayableOn, IsPlaying, configuration_of}
use Rattle.machine_runner.proofs.Eras.{of_each_era}
use Rattle.machine_runner.proofs.FirstPassing.{first_locked_below}
use Rattle.machine_runner.proofs.Firsts.{in_era}
use Rattle.machine_runner.proofs.KnownLocks.{known_at}
use Rattle.round_runner.proofs.FirstLocked.{passes, first_is_locked}
use Rattle.round_runner.proofs.ScenesRun.{states_at, cut_at, cut_run, cut_length, cut_configuration}
use Rattle.round_runner.proofs.ScenesRun.{scenes_run}

-- a configuration is locked if it is when its states are cut
uncut_locked : (levels : List Level) (faulty : List ℕ) (config : List State)
    → IsLockedIn levels faulty (map (cut (length levels)) config)
    → IsLockedIn levels faulty config
uncut_locked [] faulty config locked = tt
uncut_locked (level ∷ below) faulty config locked =
    let depth : ℕ = length (level ∷ below) in
    record {
      value = locked.value;
      each = λ v lt correct.
          sym (ap (register_at (length below))
          (state_of-cut depth config v)
          ∙ get_or-take depth (state_of config v).registers (length below) zero_register
          (omega arith))
          ∙ locked.each v lt correct;
    }

module _ {Kept : Type 0} (plan : Plan) (script : Script) (layer : Layer Kept) (began : List Kept)
    (accepted : IsAccepted plan) (right : IsPlayableOn plan layer script)
    (sound : IsShape script.shape)
    (whole : IsScript script)
    (j : ℕ) (among : j ≤ length script.eras) where
  borne : IsToleratedBy plan (faulty_of_era script j)
  borne = of_each_era (IsToleratedBy plan) script j among right.borne

  -- the scene of an era at the bound is locked
  scene_locked : first_of_era script j + plan_bound plan < end_of_era script j
      → IsLocked plan (faulty_of_era script j)
      (states_at plan script layer began (first_of_era script j + plan_bound plan))
  scene_locked reaches =
      let first : ℕ = first_of_era script j in
      let bound : ℕ = plan_bound plan in
      let run = scenes_run plan script layer began accepted right sound whole j among
      (plan_bound plan + 1) (omega arith) (omega (arith, reaches)) in
      let long = cut_length plan script layer began first (plan_bound plan + 1) in
      let cut_locked : IsLocked plan (faulty_of_era script j)
      (cut_at plan script layer began (first_of_era script j + plan_bound plan)) =
      subst (IsLocked plan (faulty_of_era script j))
      (cut_configuration plan script layer began (first_of_era script j) (plan_bound plan + 1)
      (plan_bound plan) (omega arith))
      (locks_at_bound plan accepted (faulty_of_era script j)
      (cut_run plan script layer began (first_of_era script j) (plan_bound plan + 1)) borne run
      (omega (arith, long))) in
      uncut_locked plan.levels (faulty_of_era script j)
      (states_at plan script layer began (first_of_era script j + plan_bound plan)) cut_locked

  scenes_lock : (at : ℕ) → at ≤ script.rounds
      → first_of_era script j + plan_bound plan < end_of_era script j
      → first_of_era script j + plan_bound plan ≤ at
      → IsUpTo (first_of_era script j + plan_bound plan)
      (first_locked (era_locked plan script (states_at plan script layer began) j) at)
  scenes_lock at within reaches reached =
      first_locked_below (era_locked plan script (states_at plan script layer began) j)
      (first_of_era script j + plan_bound plan) at reached
      (passes plan script (states_at plan script layer began) whole j at among within
      (first_of_era script j + plan_bound plan)
      (in_era script whole.formed.rising j (first_of_era script j + plan_bound plan) among
      (omega arith) reaches) (scene_locked reaches))

-- what a runner knows of an era
module _ {O Kept : Type 0} (layer : O → Layer Kept) (kept : O → List Kept) (r : Running O)
    (whole : IsScript r.script) (within : r.at ≤ r.script.rounds) (j : ℕ)
    (among : j ≤ length r.script.eras) where
  pub known_is : (began : List Kept) → IsPlaying layer kept began r
      → slice_index_or r.locks j None ≡ first_locked
      (era_locked r.plan r.script (configuration_of layer began r) j) r.at
  known_is began plays = ap (λ (locks : List (Option ℕ)). slice_index_or locks j None) plays.locks
      ∙ known_at (is_locked r.plan) r.script (configuration_of layer began r) r.at j None
      (omega (arith, among))

  pub known_first : (began : List Kept) → IsPlaying layer kept began r
      → IsFirstLocked r.plan r.script (configuration_of layer began r) j r.at
      (slice_index_or r.locks j None)
  known_first began plays = subst (IsFirstLocked r.plan r.script
      (configuration_of layer began r) j r.at) (sym (known_is began plays))
      (first_is_locked r.plan r.script (configuration_of layer began r) whole j r.at among within)

  pub known_by_bound : IsAccepted r.plan → IsPlayableOn r.plan (layer r.overlay) r.script
      → IsShape r.script.shape → (began : List Kept) → IsPlaying layer kept began r
      → first_of_era r.script j + plan_bound r.plan < end_of_era r.script j
      → first_of_era r.script j + plan_bound r.plan ≤ r.at
      → IsUpTo (first_of_era r.script j + plan_bound r.plan) (slice_index_or r.locks j None)
  known_by_bound accepted right sound began plays reaches reached =
      subst (IsUpTo (first_of_era r.script j + plan_bound r.plan)) (sym (known_is began plays))
      (scenes_lock r.plan r.script (layer r.overlay) began accepted right sound whole j among r.at
      within reaches reached)
