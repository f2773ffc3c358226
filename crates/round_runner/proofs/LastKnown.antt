-- From where on a runner knows the first locked configuration of each era.
use Rattle.std.proofs.Common.{◌≡◌, ◌⊎◌, ℕ, ◌+◌, ◌-◌, ◌<◌, ◌≤◌, inl, inr, List, [], length}
use Rattle.std.proofs.Common.{Option, Some, None, refl, sym, ap, ap₂, ◌∙◌, subst, arith}
use Rattle.std.specs.Prelude.{is_some, max, slice_index_or, unwrap_or}
use Rattle.std.proofs.Math.Nat.{le-max_left, le-max_right, max-eq_left, max-eq_right, max-le}
use Rattle.std.proofs.lemmas.Bool.{true≢false, cases_lt}
use Rattle.construction.specs.Plans.{Plan}
use Rattle.plan_laws.specs.PlanMeaning.{plan_meaning}
use Rattle.counter_core.specs.NoLayers.{no_layer}
use Rattle.counter_core.specs.Overlays.{Layer}
use Rattle.adversary_script.specs.Scripts.{Script, IsScript}
use Rattle.adversary_script.specs.Eras.{era_of, first_of_era}
use Rattle.round_runner.specs.Known.{KnowsLocks, known_from}
use Rattle.round_runner.specs.Laws.{IsUpTo}
use Rattle.round_runner.specs.Locks.{first_locked, era_locked, IsFirstLocked}
use Rattle.round_runner.specs.Runners.{Running, IsPlaying, configuration_of}
use Rattle.layer_laws.specs.PlayedScenes.{scene_at}
use Rattle.machine_runner.proofs.Eras.{still_last}
use Rattle.machine_runner.proofs.FirstPassing.{first_locked_below}
use Rattle.machine_runner.proofs.Firsts.{in_era, era_some, end_within}
use Rattle.round_runner.proofs.FirstLocked.{first_is_locked, passes}
use Rattle.round_runner.proofs.LocksKnown.{known_at_end}
use Rattle.round_runner.proofs.ScenesLock.{known_is, known_first}

-- where it stops
pub stops_at : (first old new : ℕ) → old ≤ new → first ≤ new → (new ≡ old) ⊎ (new ≤ first)
    → new ≡ max old first
stops_at first old new on known short = elim short [
  | inl same ↦ same ∙ sym (max-eq_left (omega (arith, known, same)))
  | inr within ↦ (let here : new ≡ first = omega (arith, known, within) in
      here ∙ sym (max-eq_right (omega (arith, on, within))))
]

module _ {O Kept : Type 0} (layer : O → Layer Kept) (kept : O → List Kept) (r : Running O)
    (whole : IsScript r.script) (within : r.at ≤ r.script.rounds) (began : List Kept)
    (plays : IsPlaying layer kept began r) where
  abbrev last : ℕ
  last = length r.script.eras

  abbrev first : ℕ
  first = known_from r.plan r.script (configuration_of layer began r)

  abbrev found : ℕ → Option ℕ
  found at = first_locked (era_locked r.plan r.script (configuration_of layer began r) last) at

  found_is : (at : ℕ) → at ≤ r.script.rounds → IsFirstLocked r.plan r.script
      (configuration_of layer began r) last at (found at)
  found_is at le = first_is_locked r.plan r.script (configuration_of layer began r) whole last at
      (omega arith) le

  -- the last era has begun there
  begun_by : (lock : Option ℕ) → IsFirstLocked r.plan r.script (configuration_of layer began r) last
      r.script.rounds lock → first_of_era r.script last ≤ unwrap_or lock r.script.rounds
  begun_by (Some t) is = is.1.from
  begun_by None is = end_within r.script whole last (first_of_era r.script last) (omega arith)
      (era_some r.script whole last (omega arith))

  pub begun_at : first_of_era r.script last ≤ first
  begun_at = begun_by (found r.script.rounds) (found_is r.script.rounds (omega arith))

  -- if all is known, that configuration was reached
  reached : (lock : Option ℕ) → IsFirstLocked r.plan r.script (configuration_of layer began r) last
      r.at lock → slice_index_or r.locks last None ≡ lock → KnowsLocks r
      → unwrap_or lock r.script.rounds ≤ r.at
  reached (Some t) is known knows = is.0
  reached None is known knows = elim knows [
    | inl end ↦ omega (arith, end)
    | inr later ↦ absurd (true≢false (sym later.1
        ∙ (ap (λ j. is_some (slice_index_or r.locks j None)) later.0 ∙ ap is_some known)))
  ]

  pub known_then : KnowsLocks r → first ≤ r.at
  known_then knows =
      let lock : Option ℕ = slice_index_or r.locks last None in
      subst (λ (lock : Option ℕ). unwrap_or lock r.script.rounds ≤ r.at)
      (known_at_end layer kept r whole within last (omega arith) began plays knows)
      (reached lock (known_first layer kept r whole within last (omega arith) began plays) refl
      knows)

  -- and if it is not, in the last era, it lies ahead
  ahead : (lock : Option ℕ) → IsFirstLocked r.plan r.script (configuration_of layer began r) last
      r.script.rounds lock → first_of_era r.script last ≤ r.at → (KnowsLocks r → ⊥)
      → r.at < unwrap_or lock r.script.rounds
  ahead None is begun not =
      let other : (r.at ≡ r.script.rounds → ⊥) = λ end. not (inl end) in
      omega (arith, within, other)
  ahead (Some t) is begun not = elim (cases_lt r.at t) [
    | inl lt ↦ lt
    | inr le ↦ (let lock = is.1 in
        let here : era_of r.script t ≡ last =
        in_era r.script whole.formed.rising last t (omega arith) lock.from lock.before in
        let now : era_of r.script r.at ≡ last =
        still_last r.script whole t here r.at le within in
        let known : IsUpTo t (found r.at) =
        first_locked_below (era_locked r.plan r.script (configuration_of layer began r) last) t r.at
        le (passes r.plan r.script (configuration_of layer began r) whole last r.at (omega arith)
        within t here lock.locked) in
        absurd (not (inr (
          now,
          ap (λ j. is_some (slice_index_or r.locks j None)) now
              ∙ (ap is_some (known_is layer kept r whole within last (omega arith) began plays)
              ∙ ap is_some known.is),
        ))))
  ]

  pub unknown_before : first_of_era r.script last ≤ r.at → (KnowsLocks r → ⊥) → r.at < first
  unknown_before = ahead (found r.script.rounds) (found_is r.script.rounds (omega arith))

-- ---- a runner without a layer that goes on

-- where it goes on to before it plays the last era
pub record IsStart {O : Type 0} (r : Running O) (end : ℕ) : Type 0 where
  pub whole : IsScript r.script
  pub from : r.at ≤ end
  pub begun : first_of_era r.script (length r.script.eras) ≤ end
  pub within : end ≤ r.script.rounds
  pub one : (end ≡ r.at) ⊎ (end ≡ first_of_era r.script (length r.script.eras))

start_of_view : {O : Type 0} (r : Running O) (begin n end : ℕ) → IsScript r.script
    → r.at ≤ r.script.rounds → begin ≡ first_of_era r.script (n - 1)
    → n ≡ length r.script.eras + 1 → end ≡ max begin r.at → IsStart r end
start_of_view r begin n end whole within is count end_is =
    let last : ℕ = length r.script.eras in
    let number : n - 1 ≡ last = omega (arith, count) in
    let here : begin ≡ first_of_era r.script last = is ∙ ap (first_of_era r.script) number in
    let played : first_of_era r.script last ≤ r.script.rounds =
    end_within r.script whole last (first_of_era r.script last) (omega arith)
    (era_some r.script whole last (omega arith)) in
    let left = le-max_left begin r.at in
    let right = le-max_right begin r.at in
    let most : max begin r.at ≤ r.script.rounds = max-le (omega (arith, here, played)) within in
    record {
      whole = whole;
      from = omega (arith, right, end_is);
      begun = omega (arith, left, here, end_is);
      within = omega (arith, most, end_is);
      one = elim (cases_lt begin r.at) [
        | inl lt ↦ inl (end_is ∙ max-eq_right (omega (arith, lt)))
        | inr ge ↦ inr (end_is ∙ (max-eq_left ge ∙ here))
      ];
    }

pub start_is : {O : Type 0} (view r : Running O) (begin n end : ℕ) → view ≡ r
    → IsScript view.script → view.at ≤ view.script.rounds
    → begin ≡ first_of_era view.script (n - 1) → n ≡ length view.script.eras + 1
    → end ≡ max begin view.at → IsStart r end
start_is {O} view r begin n end is whole within begin_is count end_is =
    subst (λ (r : Running O). IsStart r end) is
    (start_of_view view begin n end whole within begin_is count end_is)

module _ {O : Type 0} (start r : Running O) (whole : IsScript start.script)
    (plan : r.plan ≡ start.plan) (script : r.script ≡ start.script)
    (within : r.at ≤ start.script.rounds) (began : List (Unit {0}))
    (plays : IsPlaying (λ (o : O). no_layer) (λ o. []) began r) where
  abbrev known_of : Plan → Script → ℕ
  known_of plan script = known_from plan script
      (λ t. (scene_at (plan_meaning plan) script no_layer began t).states)

  same_first : known_of r.plan r.script ≡ known_of start.plan start.script
  same_first = ap₂ known_of plan script

  here : r.at ≤ r.script.rounds
  here = let rounds = ap (λ (s : Script). s.rounds) script in omega (arith, within, rounds)

  pub known_at : KnowsLocks r → known_from start.plan start.script
      (configuration_of (λ (o : O). no_layer) began start) ≤ r.at
  known_at knows =
      let by = known_then (λ (o : O). no_layer) (λ o. []) r
      (subst IsScript (sym script) whole) here began plays knows in
      subst (λ n. n ≤ r.at) same_first by

  pub still_ahead : first_of_era start.script (length start.script.eras) ≤ r.at
      → (KnowsLocks r → ⊥) → r.at < known_from start.plan start.script
      (configuration_of (λ (o : O). no_layer) began start)
  still_ahead begun not =
      let by = unknown_before (λ (o : O). no_layer) (λ o. []) r
      (subst IsScript (sym script) whole) here began plays
      (subst (λ (s : Script). first_of_era s (length s.eras) ≤ r.at) (sym script) begun) not in
      subst (λ n. r.at < n) same_first by
