-- The scenes of a script with a layer above, cut to the registers of the plan, are a run of the
-- plan.
use Rattle.std.proofs.Common.{◌≡◌, ℕ, zero, suc, ◌+◌, ◌<◌, ◌≤◌, Bool, true, false, cond, not, ◌||◌}
use Rattle.std.proofs.Common.{◌==◌, List, [], length, map, get_or, None, unwrap_or, add-one, refl}
use Rattle.std.proofs.Common.{sym, ap, ap₂, ◌∙◌, subst, arith}
use Rattle.std.specs.List.{range_with_len}
use Rattle.std.proofs.lemmas.List.{length-map, take_at}
use Rattle.std.proofs.lemmas.List.FromFn.{fill_by_all, length-map-range_with_len}
use Rattle.std.proofs.lemmas.List.FromFn.{get_or-map-range_with_len}
use Rattle.sync_types.specs.declared.states.Reg.{Reg}
use Rattle.sync_types.specs.States.{State, zero_state}
use Rattle.construction.specs.Plans.{Plan, plan_nodes, plan_depth}
use Rattle.construction.specs.Steps.{state_of, step_of}
use Rattle.construction.specs.Runs.{is_in, IsState, IsConfiguration, IsTold, IsTable, IsNext, Run}
use Rattle.construction.specs.Runs.{configuration, heard_of, heard_by}
use Rattle.construction.proofs.Ranges.{length-step_in, step_is_state}
use Rattle.plan_numbers.specs.Premises.{IsAccepted}
use Rattle.plan_laws.specs.PlanMeaning.{plan_meaning}
use Rattle.plan_laws.proofs.PlanCounter.{positive}
use Rattle.plan_laws.proofs.Ranges.{state_of-cut, step_of-cut}
use Rattle.counter_core.specs.Meanings.{cut}
use Rattle.counter_core.specs.Overlays.{Layer}
use Rattle.state_codec.specs.Shapes.{Shape, IsShape, shape_with, fields_at}
use Rattle.state_codec.specs.Ranges.{InRange}
use Rattle.adversary_script.specs.Scripts.{Script, IsScript}
use Rattle.adversary_script.specs.Eras.{first_of_era, end_of_era, faulty_of_era, faulty_at}
use Rattle.adversary_script.specs.Lookup.{hit_at}
use Rattle.adversary_script.specs.Lies.{fitted, start_of, lie_of}
use Rattle.adversary_script.proofs.LiesInRange.{starts_in_range, lies_have}
use Rattle.round_runner.specs.Played.{heard_at}
use Rattle.round_runner.specs.Runners.{IsPlayableOn}
use Rattle.layer_laws.specs.PlayedScenes.{begun_kept, layer_step, new_state, state_behind, scene_at}
use Rattle.round_runner.proofs.Fitting.{front_is, fitted_is}
use Rattle.machine_runner.proofs.Firsts.{in_era, none_inside, none_hit}
use Rattle.machine_runner.proofs.Hits.{put_has, hit_has}
use Rattle.counter_core.proofs.StateLists.{each_below}
use Rattle.machine_runner.proofs.Places.{placed}

-- a choice of two states, cut
cut_choice : (d : ℕ) (b : Bool) (s t : State) → cond b (cut d s) (cut d t) ≡ cut d (cond b s t)
cut_choice d true s t = refl
cut_choice d false s t = refl

-- what is heard of cut states is what is heard, cut
module _ (d n : ℕ) (faulty : List ℕ) (config : List State) (lie : ℕ → ℕ → State) (v : ℕ)
    (vlt : v < n) where
  abbrev table : (ℕ → ℕ → State) → List (List State)
  table lie = map (λ u. map (λ w. lie u w) (range_with_len 0 n)) (range_with_len 0 n)

  abbrev cut_lie : ℕ → ℕ → State
  cut_lie u w = cut d (lie u w)

  table_at : (lie : ℕ → ℕ → State) (u : ℕ) → u < n → state_of (get_or (table lie) u []) v ≡ lie u v
  table_at lie u ult =
      ap (λ (row : List State). state_of row v)
      (get_or-map-range_with_len (λ u. map (λ w. lie u w) (range_with_len 0 n)) 0 n u u [] ult
      (omega arith))
      ∙ get_or-map-range_with_len (λ w. lie u w) 0 n v v (zero_state 0) vlt (omega arith)

  one_cut : (u : ℕ) → u < n → heard_of faulty (map (cut d) config) (table cut_lie) v u
      ≡ cut d (heard_of faulty config (table lie) v u)
  one_cut u ult =
      let test : Bool = u == v || not (is_in faulty u) in
      ap₂ (λ (s t : State). cond test s t) (state_of-cut d config u)
      (table_at cut_lie u ult ∙ ap (cut d) (sym (table_at lie u ult)))
      ∙ cut_choice d test (state_of config u) (state_of (get_or (table lie) u []) v)

  pub heard_cut : heard_by n faulty (map (cut d) config) (table cut_lie) v
      ≡ map (cut d) (heard_by n faulty config (table lie) v)
  heard_cut =
      let f : ℕ → State = heard_of faulty (map (cut d) config) (table cut_lie) v in
      let g : ℕ → State = heard_of faulty config (table lie) v in
      let all : List State = map g (range_with_len 0 n) in
      let long : length all ≡ n = length-map-range_with_len g 0 n in
      sym (fill_by_all f (map (cut d) all) n (zero_state 0) (length-map all (cut d) ∙ long)
      (λ u ult. state_of-cut d all u
      ∙ (ap (cut d) (get_or-map-range_with_len g 0 n u u (zero_state 0) ult (omega arith))
      ∙ sym (one_cut u ult))))

module _ {Kept : Type 0} (plan : Plan) (script : Script) (layer : Layer Kept)
    (began : List Kept) where
  abbrev depth : ℕ
  depth = plan_depth plan

  -- configuration t
  abbrev pub states_at : ℕ → List State
  states_at t = (scene_at (plan_meaning plan) script layer began t).states

  pub size_at : (t : ℕ) → length (states_at t) ≡ script.nodes
  size_at zero = length-map-range_with_len (start_of script) 0 script.nodes
  size_at (suc t) =
      let before = scene_at (plan_meaning plan) script layer began t in
      length-map-range_with_len (state_behind
      (plan_meaning plan) script layer t before.states (begun_kept layer t before.kept)) 0
      script.nodes

  -- configuration t, cut
  abbrev pub cut_at : ℕ → List State
  cut_at t = map (cut depth) (states_at t)

  -- so many configurations from that one on, cut
  abbrev pub cut_run : (first count : ℕ) → List (List State)
  cut_run first count = map (λ i. cut_at (first + i)) (range_with_len 0 count)

  pub cut_length : (first count : ℕ) → length (cut_run first count) ≡ count
  cut_length first count = length-map-range_with_len (λ i. cut_at (first + i)) 0 count

  pub cut_configuration : (first count i : ℕ) → i < count
      → configuration (cut_run first count) i ≡ cut_at (first + i)
  cut_configuration first count i lt = get_or-map-range_with_len
      (λ i. cut_at (first + i)) 0 count i i [] lt (omega arith)

  module _ (accepted : IsAccepted plan) (right : IsPlayableOn plan layer script)
      (sound : IsShape script.shape) (whole : IsScript script) where
    -- a state whose front is one of the plan's node
    abbrev HasFront : ℕ → State → Type 0
    HasFront v s = IsState plan v (cut depth s)

    further : IsShape (shape_with plan layer.values layer.extra)
    further = subst IsShape right.shape sound

    front_of : (v : ℕ) → v < script.nodes → (s : State) → InRange (fields_at script.shape v) s
        → HasFront v s
    front_of v lt s range =
        front_is plan layer accepted further v (let n = right.nodes in omega arith) s
        (subst (λ (shape : Shape). InRange (fields_at shape v) s) right.shape range)

    -- that of a new state is the step of the plan
    new_front : (kept : List Kept) (v : ℕ) (heard : List State)
        → cut depth (new_state (plan_meaning plan) layer kept v heard) ≡ step_of plan v heard
    new_front kept v heard =
        let step : State = step_of plan v heard in
        ap (λ (registers : List Reg). let s : State =
        record { x = step.x; registers = registers } in s)
        (take_at step.registers (layer_step (plan_meaning plan) layer kept v heard).registers depth
        (length-step_in plan.base plan.levels v heard))

    new_has : (kept : List Kept) (v : ℕ) (heard : List State)
        → HasFront v (new_state (plan_meaning plan) layer kept v heard)
    new_has kept v heard =
        let some = positive plan.base plan.levels accepted.levels in
        subst (IsState plan v) (sym (new_front kept v heard))
        (step_is_state plan some.0 some.1 v heard)

    fronts_at : (t v : ℕ) → v < script.nodes → HasFront v (state_of (states_at t) v)
    fronts_at zero = placed HasFront (start_of script) script.nodes
        (λ v lt. front_of v lt (start_of script v) (starts_in_range script whole sound v))
    fronts_at (suc t) =
        let before = scene_at (plan_meaning plan) script layer began t in
        let kept : List Kept = begun_kept layer t before.kept in
        placed HasFront (state_behind (plan_meaning plan) script layer t before.states kept)
        script.nodes (λ v lt. put_has (HasFront v) (hit_at script (t + 1) v) _
        (hit_has script whole (HasFront v) (t + 1) v (front_of v lt))
        (new_has kept v (heard_at script t before.states v)))

    cut_is : (t : ℕ) → IsConfiguration plan (cut_at t)
    cut_is t = record {
      size = length-map (states_at t) (cut depth) ∙ (size_at t ∙ right.nodes);
      states = λ v lt. subst (IsState plan v) (sym (state_of-cut depth (states_at t) v))
          (fronts_at t v (let n = right.nodes in omega arith));
    }

    -- what is told in round t, cut
    abbrev cut_lies : ℕ → List (List State)
    cut_lies t = map (λ u. map (λ v. cut depth (lie_of script t u v (states_at t)))
        (range_with_len 0 script.nodes)) (range_with_len 0 script.nodes)

    -- it is that of the sender
    lie_front : (t u v : ℕ) → u < script.nodes → HasFront u (lie_of script t u v (states_at t))
    lie_front t u v node =
        let inside : u < plan_nodes plan = (let n = right.nodes in omega arith) in
        lies_have script whole sound (HasFront u) t u v (states_at t) (front_of u node)
        (fronts_at t u node) (λ w lt.
        subst (λ (shape : Shape). HasFront u (fitted (fields_at shape u)
        (state_of (states_at t) w)))
        (sym right.shape)
        (fitted_is plan layer accepted further u inside (state_of (states_at t) w)))

    lies_are : (t : ℕ) → IsTable plan (cut_lies t)
    lies_are t =
        let lie : ℕ → ℕ → State = λ u v. cut depth (lie_of script t u v (states_at t)) in
        let row : ℕ → List State = λ u. map (lie u) (range_with_len 0 script.nodes) in
        let told : (u : ℕ) → u < script.nodes → IsTold plan u (row u) = λ u node. record {
          size = length-map-range_with_len (lie u) 0 script.nodes ∙ right.nodes;
          states = each_below (IsState plan u) (lie u) script.nodes (λ v lt. lie_front t u v node);
        } in
        record {
          size = length-map-range_with_len row 0 script.nodes ∙ right.nodes;
          rows = λ u lt.
              let node : u < script.nodes = (let n = right.nodes in omega arith) in
              subst (IsTold plan u)
              (sym (get_or-map-range_with_len row 0 script.nodes u u [] node (omega arith)))
              (told u node);
        }

    -- if nobody is put into a state, the cut new state of each node is its step from what it hears
    -- of cut states
    stepped : (t v n : ℕ) (faulty : List ℕ) → script.nodes ≡ n → faulty_at script t ≡ faulty → v < n
        → hit_at script (t + 1) v ≡ None
        → state_of (cut_at (suc t)) v ≡ step_of plan v (heard_by n faulty (cut_at t) (cut_lies t) v)
    stepped t v n faulty nodes same lt none =
        let before = scene_at (plan_meaning plan) script layer began t in
        let config : List State = before.states in
        let kept : List Kept = begun_kept layer t before.kept in
        let vlt : v < script.nodes = omega (arith, nodes) in
        let heard : List State = heard_at script t config v in
        state_of-cut depth (states_at (suc t)) v
        ∙ ap (cut depth) (get_or-map-range_with_len
        (state_behind (plan_meaning plan) script layer t config kept) 0 script.nodes v v
        (zero_state 0) vlt (omega arith))
        ∙ ap (λ hit. cut depth (unwrap_or hit
        (new_state (plan_meaning plan) layer kept v heard))) none
        ∙ new_front kept v heard
        ∙ sym (step_of-cut plan v heard)
        ∙ ap (step_of plan v) (sym (heard_cut depth script.nodes (faulty_at script t) config
        (λ u w. lie_of script t u w config) v vlt))
        ∙ ap (λ f. step_of plan v (heard_by script.nodes f (cut_at t) (cut_lies t) v)) same
        ∙ ap (λ m. step_of plan v (heard_by m faulty (cut_at t) (cut_lies t) v)) nodes

    module _ (j : ℕ) (among : j ≤ length script.eras) where
      next_is : (t : ℕ) → first_of_era script j ≤ t → t + 1 < end_of_era script j
          → IsNext plan (faulty_of_era script j) (cut_at t) (cut_at (t + 1))
      next_is t low high =
          let rising = whole.formed.rising in
          let same : faulty_at script t ≡ faulty_of_era script j =
          ap (faulty_of_era script) (in_era script rising j t among low (omega arith)) in
          let none = none_inside script rising j t among low high in
          rw (add-one t) (record {
            lies = cut_lies t;
            round = record {
              table = lies_are t;
              steps =
                  λ v lt correct. stepped t v (plan_nodes plan)
                  (faulty_of_era script j) right.nodes same lt (none_hit script (t + 1) v none);
            };
          })

      -- the scenes of an era, as many of its first ones as one wants, are a run
      pub scenes_run : (count : ℕ) → 0 < count → first_of_era script j + count ≤ end_of_era script j
          → Run plan (faulty_of_era script j) (cut_run (first_of_era script j) count)
      scenes_run count some within =
          let first : ℕ = first_of_era script j in
          let long = cut_length (first_of_era script j) count in
          record {
            some = omega (arith, long, some);
            configurations = each_below (IsConfiguration plan)
                (λ i. cut_at (first_of_era script j + i)) count
                (λ i lt. cut_is (first_of_era script j + i));
            rounds = λ i lt.
                let here = cut_configuration (first_of_era script j) count i
                (omega (arith, long)) in
                let there = cut_configuration (first_of_era script j) count (i + 1)
                (omega (arith, long)) in
                let next : first_of_era script j + i + 1 ≡ first_of_era script j + (i + 1) =
                omega arith in
                rw (here, there) (subst (λ t.
                IsNext plan (faulty_of_era script j) (cut_at (first_of_era script j + i))
                (cut_at t)) next (next_is (first_of_era script j + i) (omega arith)
                (omega (arith, long, within))));
          }
