-- From a locked configuration on all correct nodes show one number, which counts to the end of the
-- era, with any layer above the counter.
use Rattle.std.proofs.Common.{◌≡◌, ℕ, zero, suc, ◌+◌, ◌-◌, ◌%◌, ◌<◌, ◌≤◌, List, [], ◌∷◌, length}
use Rattle.std.proofs.Common.{map, Option, Some, None, true, false, sym, ap, ◌∙◌, subst, arith}
use Rattle.std.specs.Prelude.{is_some, slice_index_or}
use Rattle.std.proofs.lemmas.Bool.{true≢false}
use Rattle.std.proofs.Math.Nat.{mod-eq_of_lt}
use Rattle.std.proofs.lemmas.List.{get_or-take}
use Rattle.std.proofs.lemmas.List.Elements.{All-get_or}
use Rattle.sync_types.specs.States.{State, register_at, zero_register}
use Rattle.construction.specs.Plans.{Level, Plan, plan_nodes, plan_faults, plan_modulus, plan_depth}
use Rattle.construction.specs.Shown.{shown}
use Rattle.construction.specs.Steps.{state_of}
use Rattle.construction.specs.Runs.{is_in, IsToleratedBy, IsConfiguration, Run, IsLocked}
use Rattle.construction.specs.Runs.{IsLockedIn}
use Rattle.construction.specs.Runs.{configuration}
use Rattle.plan_numbers.specs.Premises.{IsAccepted}
use Rattle.plan_numbers.proofs.Accepted.{accepted_sized}
use Rattle.plan_laws.specs.Laws.{StaysLockedFrom}
use Rattle.plan_laws.proofs.PlanCounter.{positive, plan_sizes}
use Rattle.plan_laws.proofs.Ranges.{state_of-cut, shown_of_cut, range_of_state}
use Rattle.plan_laws.proofs.RunLaws.{locked_runs_count}
use Rattle.counter_core.specs.Meanings.{cut}
use Rattle.counter_core.specs.Overlays.{Layer}
use Rattle.state_codec.specs.Shapes.{IsShape}
use Rattle.adversary_script.specs.Scripts.{Script, IsScript}
use Rattle.adversary_script.specs.Eras.{era_of, first_of_era, end_of_era, faulty_of_era}
use Rattle.layer_laws.specs.Scenes.{Scene}
use Rattle.round_runner.specs.Known.{lowest_correct, CountsOn}
use Rattle.round_runner.specs.Locks.{IsFirstLocked}
use Rattle.round_runner.specs.Runners.{Running, IsPlayableOn, IsPlaying, configuration_of}
use Rattle.machine_runner.proofs.Eras.{of_each_era, counts_on}
use Rattle.machine_runner.proofs.Firsts.{in_era, era_within}
use Rattle.layer_laws.proofs.LowestCorrect.{lowest_leads}
use Rattle.round_runner.proofs.ScenesLock.{known_first}
use Rattle.round_runner.proofs.ScenesRun.{states_at, cut_at, cut_run, cut_length, cut_configuration}
use Rattle.round_runner.proofs.ScenesRun.{scenes_run}

-- a number below the modulus that counts does so for any number of rounds
counted : (c : ℕ) (output : ℕ → ℕ) (from end : ℕ)
    → ((t : ℕ) → from ≤ t → t + 1 < end → output (t + 1) ≡ (output t + 1) % c)
    → (i x : ℕ) → from ≤ i → output i < c → i + x < end → output (i + x) ≡ (output i + x) % c
counted c output from end grows i zero lo below hi =
    let here : i + 0 ≡ i = omega arith in
    let none : output i + 0 ≡ output i = omega arith in
    ap output here ∙ (sym (mod-eq_of_lt below) ∙ ap (λ y. y % c) (sym none))
counted c output from end grows i (suc x) lo below hi = counts_on c output from end grows i x lo hi

-- the cut states of a locked configuration are locked
cut_locked : (levels : List Level) (faulty : List ℕ) (config : List State)
    → IsLockedIn levels faulty config
    → IsLockedIn levels faulty (map (cut (length levels)) config)
cut_locked [] faulty config locked = tt
cut_locked (level ∷ below) faulty config locked =
    let depth : ℕ = length (level ∷ below) in
    record {
      value = locked.value;
      each = λ v lt correct.
          ap (register_at (length below)) (state_of-cut depth config v)
          ∙ get_or-take depth (state_of config v).registers (length below) zero_register
          (omega arith)
          ∙ locked.each v lt correct;
    }

module _ {Kept : Type 0} (plan : Plan) (script : Script) (layer : Layer Kept) (began : List Kept)
    (accepted : IsAccepted plan) (right : IsPlayableOn plan layer script)
    (sound : IsShape script.shape)
    (whole : IsScript script) (j : ℕ) (among : j ≤ length script.eras) where
  abbrev faulty : List ℕ
  faulty = faulty_of_era script j

  abbrev first : ℕ
  first = first_of_era script j

  abbrev count : ℕ
  count = end_of_era script j - first_of_era script j

  abbrev run : List (List State)
  run = cut_run plan script layer began first count

  abbrev shows : (t v : ℕ) → ℕ
  shows t v = shown (plan_depth plan) (state_of (states_at plan script layer began t) v)

  -- some node is correct in each era
  abbrev lead : ℕ
  lead = lowest_correct (plan_nodes plan) faulty

  borne : IsToleratedBy plan faulty
  borne = of_each_era (IsToleratedBy plan) script j among right.borne

  leads : (lead < plan_nodes plan) × (is_in faulty lead ≡ false)
  leads = lowest_leads (plan_nodes plan) (plan_faults plan) faulty
      (accepted_sized plan.base plan.levels accepted.levels).quorum borne.few

  module _ (w : ℕ) (low : first_of_era script j ≤ w) (high : w < end_of_era script j)
      (locked : IsLocked plan (faulty_of_era script j) (states_at plan script layer began w)) where
    long : length run ≡ count
    long = cut_length plan script layer began first count

    is_run : Run plan faulty run
    is_run = scenes_run plan script layer began accepted right sound whole j among count
        (omega (arith, low, high)) (omega (arith, low, high))

    configuration_is : (t : ℕ) → first ≤ t → t < end_of_era script j
        → configuration run (t - first) ≡ cut_at plan script layer began t
    configuration_is t lo hi =
        let back : first + (t - first) ≡ t = omega (arith, lo) in
        cut_configuration plan script layer began first count (t - first) (omega (arith, lo, hi))
        ∙ ap (cut_at plan script layer began) back

    stays : StaysLockedFrom plan faulty run (w - first)
    stays = locked_runs_count plan accepted faulty run
        borne is_run (w - first)
        (omega (arith, low, high, long))
        (subst (IsLocked plan faulty) (sym (configuration_is w low high))
        (cut_locked plan.levels faulty (states_at plan script layer began w) locked))

    -- what a correct node shows is the output of that run
    shows_output : (t v : ℕ) → w ≤ t → t < end_of_era script j → v < plan_nodes plan
        → is_in faulty v ≡ false → shows t v ≡ stays.counts.output (t - first)
    shows_output t v lo hi lt correct =
        let depth : ℕ = plan_depth plan in
        let config : List State = states_at plan script layer began t in
        sym (shown_of_cut depth depth (omega arith) (state_of config v))
        ∙ (ap (shown depth) (sym (state_of-cut depth config v))
        ∙ (ap (λ (config : List State). shown depth (state_of config v))
        (sym (configuration_is t (omega (arith, low, lo)) hi))
        ∙ stays.counts.shows (t - first) (omega (arith, low, lo)) (omega (arith, low, lo, hi, long))
        v lt correct))

    -- and is below the modulus
    shows_below : (t : ℕ) → w ≤ t → t < end_of_era script j
        → stays.counts.output (t - first) < plan_modulus plan
    shows_below t lo hi =
        let some = positive plan.base plan.levels accepted.levels in
        let states : IsConfiguration plan (configuration run (t - first)) =
        All-get_or (IsConfiguration plan) run (t - first) []
        (omega (arith, low, lo, hi, long)) is_run.configurations in
        let state : State = state_of (configuration run (t - first)) lead in
        subst (λ y. y < plan_modulus plan)
        (stays.counts.shows (t - first) (omega (arith, low, lo)) (omega (arith, low, lo, hi, long))
        lead leads.0 leads.1)
        ((plan_sizes plan accepted).shown lead state leads.0
        (range_of_state plan some.0 some.1 lead state (states.states lead leads.0)))

    -- so from each later configuration on they count
    pub later_counts : (at t v : ℕ) → w ≤ at → at ≤ t → t < end_of_era script j
        → v < plan_nodes plan → is_in faulty v ≡ false
        → shows t v ≡ (shows at lead + (t - at)) % plan_modulus plan
    later_counts at t v from lo hi lt correct =
        let i : ℕ = at - first in
        let there : t - first ≡ i + (t - at) = omega (arith, low, from, lo) in
        shows_output t v (omega (arith, from, lo)) hi lt correct
        ∙ (ap stays.counts.output there
        ∙ (counted (plan_modulus plan) stays.counts.output (w - first) (length run)
        stays.counts.grows i (t - at) (omega (arith, low, from))
        (shows_below at from (omega (arith, lo, hi)))
        (omega (arith, low, from, lo, hi, long))
        ∙ ap (λ o. (o + (t - at)) % plan_modulus plan)
        (sym (shows_output at lead from (omega (arith, lo, hi)) leads.0 leads.1))))

-- what a runner shows counts, if it knows a locked configuration of its era
module _ {O Kept : Type 0} (layer : O → Layer Kept) (kept : O → List Kept) (r : Running O)
    (accepted : IsAccepted r.plan) (right : IsPlayableOn r.plan (layer r.overlay) r.script)
    (sound : IsShape r.script.shape) (whole : IsScript r.script)
    (within : r.at ≤ r.script.rounds) where
  abbrev era : ℕ
  era = era_of r.script r.at

  abbrev value : ℕ
  value = shown (plan_depth r.plan) (state_of r.states
      (lowest_correct (plan_nodes r.plan) (faulty_of_era r.script era)))

  counts_from : (began : List Kept) → IsPlaying layer kept began r → (known : Option ℕ)
      → is_some known ≡ true
      → IsFirstLocked r.plan r.script (configuration_of layer began r) era r.at known
      → CountsOn r.plan r.script (configuration_of layer began r) r.at value
  counts_from began plays None some first = absurd (true≢false (sym some))
  counts_from began plays (Some w) some first = λ t lo hi v lt correct.
      let rising = whole.formed.rising in
      let is = first.1 in
      let from = is.from in
      let le = first.0 in
      let here : era_of r.script t ≡ era =
      in_era r.script rising era t (era_within r.script r.at) (omega (arith, from, le, lo)) hi in
      let node : is_in (faulty_of_era r.script era) v ≡ false =
      subst (λ j. is_in (faulty_of_era r.script j) v ≡ false) here correct in
      later_counts r.plan r.script (layer r.overlay) began accepted right sound whole era
      (era_within r.script r.at) w is.from is.before is.locked r.at t v first.0 lo hi lt node
      ∙ ap (λ (config : List State). (shown (plan_depth r.plan) (state_of config
      (lowest_correct (plan_nodes r.plan) (faulty_of_era r.script era))) + (t - r.at))
      % plan_modulus r.plan) (sym (ap (λ (s : Scene Kept). s.states) plays.scene))

  pub runner_counts : is_some (slice_index_or r.locks era None) ≡ true → (began : List Kept)
      → IsPlaying layer kept began r
      → CountsOn r.plan r.script (configuration_of layer began r) r.at value
  runner_counts some began plays = counts_from began plays (slice_index_or r.locks era None) some
      (known_first layer kept r whole within era (era_within r.script r.at) began plays)

-- the same, by what is kept of the runner
pub view_counts : {O Kept : Type 0} (layer : O → Layer Kept) (kept : O → List Kept)
    (view r : Running O) → view ≡ r → IsAccepted view.plan
    → IsPlayableOn view.plan (layer view.overlay) view.script → IsShape view.script.shape
    → IsScript view.script → view.at ≤ view.script.rounds
    → is_some (slice_index_or r.locks (era_of r.script r.at) None) ≡ true → (began : List Kept)
    → IsPlaying layer kept began r
    → CountsOn r.plan r.script (configuration_of layer began r) r.at
    (shown (plan_depth r.plan) (state_of r.states
    (lowest_correct (plan_nodes r.plan) (faulty_of_era r.script (era_of r.script r.at)))))
view_counts layer kept view r is accepted right sound whole within = runner_counts layer kept r
    (subst (λ (r : Running _). IsAccepted r.plan) is accepted)
    (subst (λ (r : Running _). IsPlayableOn r.plan (layer r.overlay) r.script) is right)
    (subst (λ (r : Running _). IsShape r.script.shape) is sound)
    (subst (λ (r : Running _). IsScript r.script) is whole)
    (subst (λ (r : Running _). r.at ≤ r.script.rounds) is within)
