-- A script that says no noise plays the same run with every key.
use Rattle.std.proofs.Common.{◌≡◌, ℕ, zero, suc, ◌+◌, List, [], ◌∷◌, map, Bool, true, false, cond}
use Rattle.std.proofs.Common.{Option, Some, None, find, refl, ap, ◌∙◌}
use Rattle.std.specs.Prelude.{unwrap_or}
use Rattle.std.specs.List.{list_any, range_with_len}
use Rattle.std.proofs.Math.Path.{fun_ext}
use Rattle.std.proofs.lemmas.Bool.{or_parts}
use Rattle.sync_types.specs.States.{State}
use Rattle.construction.specs.Plans.{Plan}
use Rattle.construction.specs.Steps.{step_of}
use Rattle.construction.specs.Runs.{heard_by}
use Rattle.adversary_script.specs.declared.lies.CommonStart.{CommonStart}
use Rattle.adversary_script.specs.declared.lies.CommonStart.TheVariants as common
use Rattle.adversary_script.specs.declared.lies.What.{What}
use Rattle.adversary_script.specs.declared.lies.What.TheVariants as what
use Rattle.adversary_script.specs.declared.lies.Lie.{Lie}
use Rattle.adversary_script.specs.Scripts.{Script}
use Rattle.adversary_script.specs.Eras.{faulty_at}
use Rattle.adversary_script.specs.Lookup.{hit_at, start_for, speaks}
use Rattle.adversary_script.specs.Lies.{common_start, own_or_common, start_of, lie_state}
use Rattle.adversary_script.specs.Lies.{lie_or_puppet, lie_of}
use Rattle.adversary_script.specs.NoiseSaid.{is_noise, says_noise, starts_with_noise}
use Rattle.machines.specs.Machines.{Machine}
use Rattle.machine_runner.specs.Played as machine_runs
use Rattle.round_runner.specs.Played.{starts, lies_at, after_round, played_at}
use Rattle.sweep.specs.Keys.{keyed}

abbrev any_is_noise : List Lie → Bool
any_is_noise lies = list_any (λ lie. is_noise lie.what) lies

module _ (script : Script) (seed : ℕ) where
  -- ---- starts

  common_is : (first : CommonStart) → starts_with_noise first ≡ false → (v : ℕ)
      → common_start (keyed script seed) first v ≡ common_start script first v
  common_is common.Zero silent v = refl
  common_is common.Noise silent v = absurd (cc)

  own_is : (own : Option State) → starts_with_noise script.common ≡ false → (v : ℕ)
      → own_or_common (keyed script seed) own v ≡ own_or_common script own v
  own_is (Some state) silent v = refl
  own_is None silent v = common_is script.common silent v

  -- ---- lies

  module _ (t u v : ℕ) (config : List State) where
    said_is : (said : What) → is_noise said ≡ false
        → lie_state (keyed script seed) t u v config said ≡ lie_state script t u v config said
    said_is what.Noise silent = absurd (cc)
    said_is (what.Copy w) silent = refl
    said_is (what.State state) silent = refl
    said_is (what.Shift by) silent = refl

    abbrev IsSame : Option Lie → Type 0
    IsSame found = lie_or_puppet (keyed script seed) t u v config found
        ≡ lie_or_puppet script t u v config found

    by_test : (passes : Bool) (lie : Lie) (behind : Option Lie) → is_noise lie.what ≡ false
        → IsSame behind → IsSame (cond passes (Some lie) behind)
    by_test true lie behind silent same = said_is lie.what silent
    by_test false lie behind silent same = same

    found_is : (passes : Lie → Bool) (lies : List Lie)
        → any_is_noise lies ≡ false → IsSame (find passes lies)
    found_is passes [] silent = refl
    found_is passes (lie ∷ lies) silent =
        let parts = or_parts (is_noise lie.what) (any_is_noise lies) silent in
        by_test (passes lie) lie (find passes lies) parts.0 (found_is passes lies parts.1)

  -- ---- what is played

  module _ (silent : says_noise script ≡ false) where
    start_is : (v : ℕ) → start_of (keyed script seed) v ≡ start_of script v
    unfolding start_of
    start_is v =
        own_is (start_for script v)
        (or_parts (starts_with_noise script.common) (any_is_noise script.lies) silent).0 v

    lie_is : (t u v : ℕ) (config : List State)
        → lie_of (keyed script seed) t u v config ≡ lie_of script t u v config
    unfolding lie_of
    lie_is t u v config =
        found_is t u v config (speaks script.groups t u v) script.lies
        (or_parts (starts_with_noise script.common) (any_is_noise script.lies) silent).1

    lies_are : (t : ℕ) (config : List State)
        → lies_at (keyed script seed) t config ≡ lies_at script t config
    lies_are t config =
        ap (λ (f : ℕ → ℕ → State). map (λ u. map (f u) (range_with_len 0 script.nodes))
        (range_with_len 0 script.nodes)) (fun_ext (λ u. fun_ext (λ v. lie_is t u v config)))

    starts_are : starts (keyed script seed) ≡ starts script
    starts_are =
        ap (λ (f : ℕ → State). map f (range_with_len 0 script.nodes)) (fun_ext start_is)

    round_is : (plan : Plan) (t : ℕ) (config : List State)
        → after_round plan (keyed script seed) t config ≡ after_round plan script t config
    round_is plan t config =
        ap (λ (lies : List (List State)). map (λ v. unwrap_or (hit_at script (t + 1) v)
        (step_of plan v (heard_by script.nodes (faulty_at script t) config lies v)))
        (range_with_len 0 script.nodes)) (lies_are t config)

    pub same_run : (plan : Plan) (t : ℕ)
        → played_at plan (keyed script seed) t ≡ played_at plan script t
    same_run plan zero = starts_are
    same_run plan (suc t) =
        ap (after_round plan (keyed script seed) t) (same_run plan t)
        ∙ round_is plan t (played_at plan script t)

    -- so it is on any machine

    machine_round_is : (machine : Machine) (t : ℕ) (config : List State)
        → machine_runs.after_round machine (keyed script seed) t config
        ≡ machine_runs.after_round machine script t config
    machine_round_is machine t config =
        ap (λ (lies : List (List State)). map (λ v. unwrap_or (hit_at script (t + 1) v)
        (machine.step v (heard_by script.nodes (faulty_at script t) config lies v)))
        (range_with_len 0 script.nodes)) (lies_are t config)

    pub same_machine_run : (machine : Machine) (t : ℕ)
        → machine_runs.played_at machine (keyed script seed) t
        ≡ machine_runs.played_at machine script t
    same_machine_run machine zero = starts_are
    same_machine_run machine (suc t) =
        ap (machine_runs.after_round machine (keyed script seed) t) (same_machine_run machine t)
        ∙ machine_round_is machine t (machine_runs.played_at machine script t)
