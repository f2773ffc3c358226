-- From a settled configuration to the end of its era each configuration that is played is that one,
-- with each field grown by the rounds between.
use Rattle.std.proofs.Common.{◌≡◌, ℕ, zero, suc, ◌+◌, ◌-◌, ◌<◌, ◌≤◌, inl, inr, Bool, true, false}
use Rattle.std.proofs.Common.{cond, not, List, [], length, Option, None, unwrap_or, refl, sym}
use Rattle.std.proofs.Common.{ap, ◌∙◌, subst, arith}
use Rattle.std.specs.Prelude.{◌==◌, ◌||◌, is_some, slice_index_or}
use Rattle.std.proofs.lemmas.Bool.{true≢false, cases_eq}
use Rattle.std.proofs.Math.Bool.{or-true}
use Rattle.std.proofs.lemmas.List.{append-nil}
use Rattle.std.proofs.lemmas.List.FromFn.{fill_by_all, get_or-map-range_with_len}
use Rattle.sync_types.specs.FaultSets.{is_in}
use Rattle.sync_types.specs.States.{State, zero_state}
use Rattle.construction.specs.Plans.{Plan, plan_nodes}
use Rattle.construction.specs.Runs.{heard_of}
use Rattle.construction.specs.Steps.{state_of, step_of}
use Rattle.plan_numbers.specs.Premises.{IsAccepted}
use Rattle.plan_laws.specs.PlanMeaning.{plan_meaning}
use Rattle.counter_core.specs.NoLayers.{no_layer}
use Rattle.state_codec.specs.Shapes.{Shape, moduli_of, shape_over, shape_of, shape_with}
use Rattle.state_codec.specs.Shapes.{fields_at}
use Rattle.shared_board.proofs.GroupStretches.{same_range}
use Rattle.tower.specs.Settled.{IsSettled}
use Rattle.layer_laws.specs.Scenes.{Scene}
use Rattle.adversary_script.specs.Scripts.{Script, IsScript}
use Rattle.adversary_script.specs.Eras.{era_of, end_of_era, faulty_of_era, faulty_at}
use Rattle.adversary_script.specs.Lies.{AreStates, shifted}
use Rattle.adversary_script.specs.Lookup.{hit_at}
use Rattle.round_runner.specs.Locks.{is_locked, first_locked, era_locked}
use Rattle.round_runner.specs.Played.{heard_at, lies_at, played_at, after_round}
use Rattle.round_runner.specs.Runners.{Running, IsPlaying, configuration_of}
use Rattle.layer_laws.specs.PlayedScenes.{begun_kept, stepped_scene, scene_at}
use Rattle.round_runner.specs.Skipping.{grown}
use Rattle.machine_runner.proofs.Firsts.{in_era, era_from, era_within, none_inside, none_hit}
use Rattle.round_runner.proofs.Grown.{shifted_none, shifted_twice, settled_stays}
use Rattle.machine_runner.proofs.FirstPassing.{still_known}
use Rattle.machine_runner.proofs.HeardAt.{heard_long}
use Rattle.machine_runner.proofs.KnownLocks.{other_era}
use Rattle.round_runner.proofs.Layering.{shown_itself}
use Rattle.layer_laws.proofs.Playing.{scene_is}
use Rattle.round_runner.proofs.Playing.{scene_played}
use Rattle.round_runner.proofs.ScenesLock.{known_is}
use Rattle.round_runner.proofs.SettledSteps.{settled_step}

-- what is heard of a correct node is its state
heard_honest : (script : Script) (t v u : ℕ) (config : List State) → u < script.nodes
    → is_in (faulty_at script t) u ≡ false
    → state_of (heard_at script t config v) u ≡ state_of config u
heard_honest script t v u config lt correct =
    get_or-map-range_with_len
    (heard_of (faulty_at script t) config (lies_at script t config) v) 0 script.nodes u u
    (zero_state 0) lt (omega arith)
    ∙ ap (λ b. cond b (state_of config u)
    (state_of (slice_index_or (lies_at script t config) u []) v))
    (ap (λ b. u == v || not b) correct ∙ or-true (u == v))

-- the states without a layer have the shape of the plan
pub bare_shape : (plan : Plan) (shape : Shape) → shape ≡ shape_with plan 0 0
    → shape ≡ shape_of plan
bare_shape plan shape is =
    is ∙ ap (λ (ms : List ℕ). shape_over plan ms) (append-nil (moduli_of plan.levels))

-- what is not before a configuration and before the end of its era is of that era
pub same_era : (script : Script) → IsScript script → (at t : ℕ) → at ≤ t
    → t < end_of_era script (era_of script at) → era_of script t ≡ era_of script at
same_era script whole at t from to =
    let first = era_from script whole.formed.rising at in
    in_era script whole.formed.rising (era_of script at) t (era_within script at)
    (omega (arith, first, from)) to

module _ (plan : Plan) (script : Script) (at : ℕ) (config : List State)
    (accepted : IsAccepted plan) (nodes : script.nodes ≡ plan_nodes plan)
    (shape : script.shape ≡ shape_of plan) (whole : IsScript script)
    (size : length config ≡ script.nodes)
    (range : AreStates script.nodes script.shape config)
    (settled : IsSettled plan (faulty_at script at) config) where
  abbrev ahead : ℕ → List State
  ahead d = grown script.shape script.nodes d config

  abbrev end : ℕ
  end = end_of_era script (era_of script at)

  step_ahead : (d v : ℕ) → at + d < end → v < script.nodes
      → step_of plan v (heard_at script (at + d) (ahead d) v)
      ≡ shifted (d + 1) (fields_at script.shape v) (state_of config v)
  step_ahead d v lt node =
      let t : ℕ = at + d in
      let fields = fields_at script.shape v in
      let era = same_era script whole at t (omega arith) lt in
      let here : IsSettled plan (faulty_at script t) config =
      subst (λ ids. IsSettled plan ids config) (sym (ap (faulty_of_era script) era)) settled in
      let stays = settled_stays plan script.shape script.nodes (faulty_at script t) config d
      accepted shape nodes range here in
      settled_step plan accepted (faulty_at script t) (ahead d) (heard_at script t (ahead d) v) v
      stays (omega (arith, node, nodes)) (heard_long script t (ahead d) v ∙ nodes)
      (shown_itself script t v (ahead d) node)
      (λ u less correct. heard_honest script t v u (ahead d) (omega (arith, less, nodes)) correct)
      ∙ (ap (λ s. shifted 1 (fields_at s v) (state_of (ahead d) v)) (sym shape)
      ∙ (ap (shifted 1 fields)
      (get_or-map-range_with_len
      (λ v. shifted d (fields_at script.shape v) (state_of config v)) 0 script.nodes v v
      (zero_state 0) node (omega arith))
      ∙ shifted_twice d fields (state_of config v)))

  pub played_ahead : config ≡ played_at plan script at → (d : ℕ) → at + d < end
      → played_at plan script (at + d) ≡ ahead d
  played_ahead is zero lt =
      let here : at + 0 ≡ at = omega arith in
      ap (played_at plan script) here
      ∙ (sym is
      ∙ fill_by_all (λ v. shifted 0 (fields_at script.shape v) (state_of config v)) config
      script.nodes (zero_state 0) size
      (λ v less. sym (shifted_none (fields_at script.shape v) (state_of config v)
      (range v less))))
  played_ahead is (suc d) lt =
      let next : at + suc d ≡ suc (at + d) = omega arith in
      let one : d + 1 ≡ suc d = omega arith in
      let first = era_from script whole.formed.rising at in
      ap (played_at plan script) next
      ∙ (ap (after_round plan script (at + d)) (played_ahead is d (omega (arith, lt)))
      ∙ same_range
      (λ v. unwrap_or (hit_at script (at + d + 1) v)
      (step_of plan v (heard_at script (at + d) (ahead d) v)))
      (λ v. shifted (suc d) (fields_at script.shape v) (state_of config v)) script.nodes 0
      (λ v from less.
      ap (λ (hit : Option State). unwrap_or hit
      (step_of plan v (heard_at script (at + d) (ahead d) v)))
      (none_hit script (at + d + 1) v
      (none_inside script whole.formed.rising (era_of script at) (at + d)
      (era_within script at) (omega (arith, first)) (omega (arith, lt))))
      ∙ (step_ahead d v (omega (arith, lt)) (omega (arith, less))
      ∙ ap (λ k. shifted k (fields_at script.shape v) (state_of config v)) one)))

-- no layer keeps nothing
kept_none : (plan : Plan) (script : Script) (began : List (Unit {0})) (t d : ℕ)
    → (scene_at (plan_meaning plan) script no_layer began t).kept ≡ []
    → (scene_at (plan_meaning plan) script no_layer began (t + d)).kept ≡ []
kept_none plan script began t zero none =
    let here : t + 0 ≡ t = omega arith in
    ap (λ u. (scene_at (plan_meaning plan) script no_layer began u).kept) here ∙ none
kept_none plan script began t (suc d) none =
    let next : t + suc d ≡ suc (t + d) = omega arith in
    let before = scene_at (plan_meaning plan) script no_layer began (t + d) in
    ap (λ u. (scene_at (plan_meaning plan) script no_layer began u).kept) next
    ∙ ap (λ (kept : List (Unit {0})). (stepped_scene (plan_meaning plan) script no_layer (t + d)
    before.states (begun_kept no_layer (t + d) kept)).kept)
    (kept_none plan script began t d none)

module _ {O : Type 0} (r : Running O) (d : ℕ)
    (accepted : IsAccepted r.plan) (nodes : r.script.nodes ≡ plan_nodes r.plan)
    (shape : r.script.shape ≡ shape_of r.plan) (whole : IsScript r.script)
    (size : length r.states ≡ r.script.nodes)
    (range : AreStates r.script.nodes r.script.shape r.states)
    (settled : IsSettled r.plan (faulty_at r.script r.at) r.states)
    (within : r.at ≤ r.script.rounds)
    (before : r.at + d < end_of_era r.script (era_of r.script r.at))
    (some : is_some (slice_index_or r.locks (era_of r.script r.at) None) ≡ true)
    (began : List (Unit {0}))
    (plays : IsPlaying (λ (o : O). no_layer) (λ o. []) began r) where
  abbrev configuration : ℕ → List State
  configuration = configuration_of (λ (o : O). no_layer) began r

  -- what is known of an era stays known
  known_ahead : (j : ℕ) → j < length r.script.eras + 1
      → first_locked (era_locked r.plan r.script configuration j) (r.at + d)
      ≡ first_locked (era_locked r.plan r.script configuration j) r.at
  known_ahead j lt =
      let passes : ℕ → Bool = era_locked r.plan r.script configuration j in
      let known = known_is (λ (o : O). no_layer) (λ o. []) r whole within j (omega (arith, lt))
      began plays in
      still_known passes r.at d (first_locked passes r.at) refl (λ u from to none.
      let same = same_era r.script whole r.at u (omega (arith, from))
      (omega (arith, to, before)) in
      elim (cases_eq j (era_of r.script r.at)) [
        | inl here ↦ absurd (true≢false (sym some
            ∙ (ap (λ i. is_some (slice_index_or r.locks i None)) (sym here)
            ∙ (ap is_some known ∙ none))))
        | inr other ↦ other_era (is_locked r.plan) r.script configuration u j _ refl
            (λ is. other (is ∙ same))
      ])

  pub plays_ahead : IsPlaying (λ (o : O). no_layer) (λ o. []) began (record r {
    at = r.at + d;
    states = grown r.script.shape r.script.nodes d r.states;
  })
  plays_ahead =
      let scene_now : ℕ → Scene (Unit {0}) =
      λ t. scene_at (plan_meaning r.plan) r.script no_layer began t in
      let here : r.states ≡ played_at r.plan r.script r.at =
      ap (λ (s : Scene (Unit {0})). s.states) plays.scene
      ∙ scene_played r.plan r.script began r.at in
      let states = sym (played_ahead r.plan r.script r.at r.states accepted nodes shape whole size
      range settled here d before) ∙ sym (scene_played r.plan r.script began (r.at + d)) in
      record {
        scene = scene_is states (sym (kept_none r.plan r.script began r.at d
            (sym (ap (λ (s : Scene (Unit {0})). s.kept) plays.scene))));
        locks = plays.locks ∙ same_range
            (λ j. first_locked (era_locked r.plan r.script configuration j) r.at)
            (λ j. first_locked (era_locked r.plan r.script configuration j) (r.at + d))
            (length r.script.eras + 1) 0
            (λ j from lt. sym (known_ahead j (omega (arith, lt))));
      }

-- a runner, as it is seen, that goes on to a configuration of the same era
pub jumps : {O : Type 0} (view r : Running O) (to : ℕ) → view ≡ r → IsAccepted view.plan
    → view.script.nodes ≡ plan_nodes view.plan → view.script.shape ≡ shape_of view.plan
    → IsScript view.script → length view.states ≡ view.script.nodes
    → AreStates view.script.nodes view.script.shape view.states → view.at ≤ view.script.rounds
    → r.at ≤ to → to < end_of_era r.script (era_of r.script r.at)
    → IsSettled r.plan (faulty_at r.script r.at) r.states
    → is_some (slice_index_or r.locks (era_of r.script r.at) None) ≡ true
    → (began : List (Unit {0})) → IsPlaying (λ (o : O). no_layer) (λ o. []) began r
    → IsPlaying (λ (o : O). no_layer) (λ o. []) began (record view {
      at = to;
      states = grown view.script.shape view.script.nodes (to - view.at) view.states;
    })
jumps {O} view r to is accepted nodes shape whole size range within from before settled some began
    plays =
    let d : ℕ = to - view.at in
    let later : view.at ≤ to = subst (λ (r : Running O). r.at ≤ to) (sym is) from in
    let there : view.at + d ≡ to = omega (arith, later) in
    let inside : view.at + d < end_of_era view.script (era_of view.script view.at) =
    subst (λ t. t < end_of_era view.script (era_of view.script view.at)) (sym there)
    (subst (λ (r : Running O). to < end_of_era r.script (era_of r.script r.at)) (sym is) before) in
    subst (λ t. IsPlaying (λ (o : O). no_layer) (λ o. []) began (record view {
      at = t;
      states = grown view.script.shape view.script.nodes d view.states;
    })) there
    (plays_ahead view d accepted nodes shape whole size range
    (subst (λ (r : Running O). IsSettled r.plan (faulty_at r.script r.at) r.states) (sym is)
    settled) within inside
    (subst (λ (r : Running O). is_some (slice_index_or r.locks (era_of r.script r.at) None) ≡ true)
    (sym is) some) began
    (subst (λ (r : Running O). IsPlaying (λ (o : O). no_layer) (λ o. []) began r) (sym is) plays))
