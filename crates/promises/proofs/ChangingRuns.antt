-- Layers whose inputs or commands change keep range and have runs.
use Rattle.std.proofs.Common.{◌≡◌, inl, inr, ℕ, ◌+◌, ◌<◌, eqb, not, ◌||◌, cond, List, [], ◌∷◌}
use Rattle.std.proofs.Common.{length, map, get_or, All, IfSome, replicate, refl, sym, ap, ap₂, ◌∙◌}
use Rattle.std.proofs.Common.{subst, length-append, false, None, arith}
use Rattle.std.specs.List.{range_with_len}
use Rattle.std.proofs.Math.Nat.{add-zero}
use Rattle.std.proofs.lemmas.Bool.{lt-ltb}
use Rattle.std.proofs.lemmas.List.{length-replicate, ext_get_or}
use Rattle.std.proofs.lemmas.List.Elements.{All-get_or, All-weaker, All-cons, All-nil}
use Rattle.std.proofs.lemmas.List.Elements.{All-replicate}
use Rattle.std.proofs.lemmas.List.FromFn.{length-map-range_with_len, get_or-map-range_with_len}
use Rattle.sync_types.specs.declared.states.Reg.{Reg}
use Rattle.sync_types.specs.States.{State, zero_state, zero_register, register_at}
use Rattle.construction.specs.Plans.{Plan, plan_nodes, plan_faults, plan_modulus, plan_depth}
use Rattle.construction.specs.Steps.{state_of, step_of}
use Rattle.construction.specs.Runs.{is_in, IsState, heard_of, heard_by}
use Rattle.construction.proofs.Ranges.{length-step_in, step_is_state}
use Rattle.plan_numbers.specs.Premises.{IsAccepted}
use Rattle.plan_laws.specs.PlanMeaning.{plan_meaning}
use Rattle.plan_laws.proofs.PlanCounter.{positive}
use Rattle.counter_core.specs.Overlays.{Layer, LayerFits, HasValues, KeepsRange, AreNew}
use Rattle.layer_laws.specs.Scenes.{Scene, kept_of, layer_step, new_state}
use Rattle.layer_laws.specs.LayerRuns.{IsLayerState, IsLayerConfiguration, IsLayerTable, LayerRound}
use Rattle.layer_laws.specs.Played.{Telling, TellsInRange, IsKeptFor, lies_in, heard_in}
use Rattle.layer_laws.specs.Played.{state_after, kept_after, next_scene, scene_after, era_from}
use Rattle.layer_laws.proofs.CutRuns.{new_front, layer_register}
use Rattle.layer_laws.proofs.Eras.{placed, eras_are_runs}
use Rattle.layer_laws.proofs.PlanSlots.{quorum_of}
use Rattle.consensus_layer.specs.Agreeing.{loaded, agree_step}
use Rattle.consensus_layer.specs.AgreeLaws.{agree_step_below}
use Rattle.consensus_layer.specs.ChangingInputs as inputs
use Rattle.replicated_log.specs.Logs.{agreement_after, log_layer_of}
use Rattle.replicated_log.specs.LogLaws.{log_keeps}
use Rattle.replicated_log.specs.ChangingCommands as commands
use Rattle.promises.specs.ChangingRuns.{HasRuns, ChangingInputsHaveRuns}
use Rattle.promises.specs.ChangingRuns.{ChangingCommandsHaveRuns}

module _ {Kept : Type 0} (layer : Layer Kept) (plan : Plan) (faulty : List ℕ) (at : ℕ)
    (old : Scene Kept) (lies : List (List State)) where
  abbrev n : ℕ
  n = plan_nodes plan

  -- what the table has for two nodes
  abbrev told : Telling
  told t u v config = state_of (get_or lies u []) v

  abbrev new : Scene Kept
  new = next_scene plan layer faulty told at old

  told_same : (u v : ℕ) → u < n → v < n
      → state_of (get_or (lies_in plan layer faulty told at old.states) u []) v
      ≡ state_of (get_or lies u []) v
  told_same u v ult vlt =
      ap (λ (row : List State). state_of row v)
      (get_or-map-range_with_len
      (λ w. map (λ x. state_of (get_or lies w []) x) (range_with_len 0 n)) 0 n u u [] ult
      (omega arith))
      ∙ get_or-map-range_with_len (λ x. state_of (get_or lies u []) x) 0 n v v (zero_state 0) vlt
      (omega arith)

  heard_same : (v : ℕ) → v < n → heard_in plan layer faulty told at old.states v
      ≡ heard_by n faulty old.states lies v
  heard_same v vlt =
      let table = lies_in plan layer faulty told at old.states in
      let f : ℕ → State = heard_of faulty old.states table v in
      let g : ℕ → State = heard_of faulty old.states lies v in
      let f_long = length-map-range_with_len f 0 n in
      let g_long = length-map-range_with_len g 0 n in
      ext_get_or (zero_state 0) (map f (range_with_len 0 n)) (map g (range_with_len 0 n))
      (f_long ∙ sym g_long)
      (λ u lt.
      let ult : u < n = omega (arith, lt, f_long) in
      get_or-map-range_with_len f 0 n u u (zero_state 0) ult (omega arith)
      ∙ (ap (λ s. cond (eqb u v || not (is_in faulty u)) (state_of old.states u) s)
      (told_same u v ult vlt)
      ∙ sym (get_or-map-range_with_len g 0 n u u (zero_state 0) ult (omega arith))))

  -- what a node keeps is what its step leaves
  kept_is : IsKeptFor n old.kept → (v : ℕ) → v < n → kept_of layer new v
      ≡ (layer_step (plan_meaning plan) layer at (kept_of layer old v) v
      (heard_in plan layer faulty told at old.states v)).kept
  kept_is (inl one) v lt = one _ _
  kept_is (inr many) v lt =
      let step : Kept = (layer_step (plan_meaning plan) layer at (kept_of layer old v) v
      (heard_in plan layer faulty told at old.states v)).kept in
      get_or-map-range_with_len (kept_after plan layer faulty told at old) 0 (length old.kept) v v
      layer.first (omega (arith, lt, many)) (omega arith)
      ∙ ap (λ b. cond b step (kept_of layer old v)) (lt-ltb v n lt)

  kept_for : IsKeptFor n old.kept → IsKeptFor n new.kept
  kept_for (inl one) = inl one
  kept_for (inr many) =
      let long = length-map-range_with_len (kept_after plan layer faulty told at old) 0
      (length old.kept) in
      inr (omega (arith, long, many))

  module _ (table : IsLayerTable plan layer lies) where
    round_is : IsKeptFor n old.kept → LayerRound plan layer faulty at old lies new
    round_is kept = record {
      table = table;
      steps = λ v vlt ok. record {
        state =
            get_or-map-range_with_len (state_after plan layer faulty told at old) 0 n v v
            (zero_state 0) vlt (omega arith)
            ∙ ap (new_state (plan_meaning plan) layer at (kept_of layer old v) v)
            (heard_same v vlt);
        kept = kept_is kept v vlt
            ∙ ap (λ h. (layer_step (plan_meaning plan) layer at (kept_of layer old v) v h).kept)
            (heard_same v vlt);
      };
    }

    told_in : TellsInRange plan layer faulty told
    told_in t u v config ult vlt is =
        let row = table.rows u ult in
        let long = row.size in
        All-get_or (IsLayerState plan layer u) (get_or lies u []) v (zero_state 0)
        (omega (arith, vlt, long)) row.states

    -- the next scene is the second one of an era that begins here
    states_are : IsAccepted plan → LayerFits layer (plan_meaning plan) → KeepsRange layer
        → IsLayerConfiguration plan layer old.states → IsKeptFor n old.kept
        → IsLayerConfiguration plan layer new.states
    states_are accepted over keeps starts kept =
        let run = eras_are_runs layer plan accepted over keeps faulty told told_in at old starts
        kept 1 in
        let f : ℕ → Scene Kept = scene_after plan layer faulty told at old in
        let none : Scene Kept = record { states = []; kept = [] } in
        let long = length-map-range_with_len f 0 2 in
        subst (λ t. IsLayerConfiguration plan layer
        (next_scene plan layer faulty told t old).states) (add-zero at)
        (subst (λ (s : Scene Kept). IsLayerConfiguration plan layer s.states)
        (get_or-map-range_with_len f 0 2 1 1 none (omega arith) (omega arith))
        (All-get_or (λ (s : Scene Kept). IsLayerConfiguration plan layer s.states)
        (era_from plan layer faulty told at old 1) 1 none (omega (arith, long))
        run.configurations))

-- ---- a configuration to begin with

abbrev IsBelow : ℕ → Reg → Type 0
IsBelow values r = IfSome r.a (λ a. a < values)

abbrev no_value : Reg
no_value = record { a = None; d = false }

module _ {Kept : Type 0} (layer : Layer Kept) (plan : Plan) (accepted : IsAccepted plan)
    (over : LayerFits layer (plan_meaning plan)) where
  -- a layer with as many registers, in which no node tells a value
  abbrev still : Layer ℕ
  still = record {
    nodes = layer.nodes;
    modulus = layer.modulus;
    depth = layer.depth;
    extra = layer.extra;
    values = layer.values;
    first = 0;
    begun = λ at kept. kept;
    next = λ v kept output heard.
        record { registers = replicate layer.extra no_value; kept = kept };
  }

  -- what a node steps to that hears nothing
  abbrev begin : ℕ → State
  begin v = new_state (plan_meaning plan) still 0 0 v []

  begin_is : (v : ℕ) → IsLayerState plan layer v (begin v)
  begin_is v =
      let moduli = positive plan.base plan.levels accepted.levels in
      let step : State = step_of plan v [] in
      let none : List Reg = replicate layer.extra no_value in
      let long = length-replicate layer.extra no_value in
      record {
        front = subst (IsState plan v) (sym (new_front plan still 0 0 v []))
            (step_is_state plan moduli.0 moduli.1 v []);
        size = length-append step.registers none
            ∙ ap₂ (λ (a b : ℕ). a + b) (length-step_in plan.base plan.levels v []) long;
        values = λ i lt.
            let same = over (omega (arith, lt)) in
            subst (IsBelow layer.values)
            (sym (ap (λ d. register_at (d + i) (begin v)) same.depth
            ∙ layer_register plan still i 0 0 v []))
            (All-get_or (IsBelow layer.values) none i zero_register (omega (arith, lt, long))
            (All-replicate (IsBelow layer.values) layer.extra no_value tt));
      }

  begins : IsLayerConfiguration plan layer (map begin (range_with_len 0 (plan_nodes plan)))
  begins = record {
    size = length-map-range_with_len begin 0 (plan_nodes plan);
    states = placed (IsLayerState plan layer) begin (plan_nodes plan) (λ v vlt. begin_is v);
  }

-- so a layer that keeps range over an accepted plan has runs
has_runs : {Kept : Type 0} (layer : Layer Kept) (plan : Plan) → IsAccepted plan
    → LayerFits layer (plan_meaning plan) → KeepsRange layer → HasRuns plan layer
has_runs layer plan accepted over keeps = record {
  keeps = keeps;
  start = map (begin layer plan accepted over) (range_with_len 0 (plan_nodes plan));
  starts = begins layer plan accepted over;
  goes_on = λ faulty at old starts kept lies table. record {
    new = next_scene plan layer faulty (λ t u v config. state_of (get_or lies u []) v) at old;
    states = states_are layer plan faulty at old lies table accepted over keeps starts kept;
    kept = kept_for layer plan faulty at old lies kept;
    round = round_is layer plan faulty at old lies table kept;
  };
}

-- ---- the two layers keep range

inputs_keep : (plan : Plan) → IsAccepted plan → (values : ℕ) (input : (v t : ℕ) → ℕ)
    → ((v t : ℕ) → v < plan_nodes plan → input v t < values)
    → KeepsRange (inputs.changing_layer plan values input)
inputs_keep plan accepted values input below v o kept heard may =
    let layer = inputs.changing_layer plan values input in
    let depth : ℕ = plan_depth plan in
    let m = may (omega arith) in
    record {
      size = refl;
      range = All-cons (IsBelow values)
          (agree_step (plan_nodes plan) (plan_faults plan) depth v (input v kept.round) o
          heard).register []
          (agree_step_below (plan_nodes plan) (plan_faults plan) depth v (input v kept.round) o
          values heard (quorum_of plan accepted) m.node m.size (below v kept.round m.node)
          (All-weaker (HasValues layer) (λ s. IfSome (register_at depth s).a (λ x. x < values))
          (λ s has. subst (λ d. IfSome (register_at d s).a (λ x. x < values)) (add-zero depth)
          (has 0 (omega arith))) heard m.range))
          (All-nil (IsBelow values));
    }

-- The register of agreement is that of a log in which each node commands one value.
commands_keep : (plan : Plan) → IsAccepted plan → (values keep : ℕ) (command : (v t : ℕ) → ℕ)
    → ((v t : ℕ) → v < plan_nodes plan → command v t < values)
    → KeepsRange (commands.changing_layer plan values keep command)
commands_keep plan accepted values keep command below v o kept heard may =
    let n : ℕ = plan_nodes plan in
    let f : ℕ = plan_faults plan in
    let c : ℕ = command v kept.round in
    let m = may (omega arith) in
    let each : List (List ℕ) = replicate n (c ∷ []) in
    let low : c < values = below v kept.round m.node in
    let all = All-replicate (λ (own : List ℕ). (0 < length own) × All (λ a. a < values) own) n
    (c ∷ []) (omega arith, All-cons (λ a. a < values) c [] low (All-nil (λ a. a < values))) in
    let layer = log_layer_of n f (plan_modulus plan) (plan_depth plan) values keep each in
    let new : AreNew layer (layer.next v kept.log o heard).registers =
    log_keeps n f (plan_modulus plan) (plan_depth plan) values keep each (quorum_of plan accepted)
    (length-replicate n (c ∷ [])) all v o kept.log heard
    (λ some. record {
      node = m.node;
      output = m.output;
      size = m.size;
      deep = m.deep;
      range = m.range;
    }) in
    record {
      size = refl;
      range = All-cons (IsBelow values) (agreement_after n f (plan_depth plan) v o heard)
          (loaded c ∷ [])
          (All-get_or (IsBelow values) (layer.next v kept.log o heard).registers 0 zero_register
          (omega arith) new.range)
          (All-cons (IsBelow values) (loaded c) [] low (All-nil (IsBelow values)));
    }

pub changing_inputs_have_runs : ChangingInputsHaveRuns
changing_inputs_have_runs plan accepted values input below =
    has_runs (inputs.changing_layer plan values input) plan accepted
    (λ some. record { nodes = refl; modulus = refl; depth = refl })
    (inputs_keep plan accepted values input below)

pub changing_commands_have_runs : ChangingCommandsHaveRuns
changing_commands_have_runs plan accepted values keep command below =
    has_runs (commands.changing_layer plan values keep command) plan accepted
    (λ some. record { nodes = refl; modulus = refl; depth = refl })
    (commands_keep plan accepted values keep command below)
