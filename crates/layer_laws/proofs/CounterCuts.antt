-- A run with a layer, cut to the registers of the counter, is a run of the counter.
use Rattle.std.proofs.Common.{◌≡◌, ℕ, ◌+◌, ◌<◌, Bool, true, false, cond, not, ◌||◌, ◌==◌, List, []}
use Rattle.std.proofs.Common.{◌++◌, length, map, get_or, refl, sym, ap, ap₂, ◌∙◌, subst, arith}
use Rattle.std.specs.List.{range_with_len}
use Rattle.std.proofs.lemmas.List.{length-map, take_at, get_or-map, get_or-append-add}
use Rattle.std.proofs.lemmas.List.Elements.{All-map, All-weaker, All-get_or}
use Rattle.std.proofs.lemmas.List.FromFn.{fill_by_all, length-map-range_with_len}
use Rattle.std.proofs.lemmas.List.FromFn.{get_or-map-range_with_len}
use Rattle.sync_types.specs.declared.states.Reg.{Reg}
use Rattle.sync_types.specs.States.{State, zero_state, zero_register, register_at}
use Rattle.construction.specs.Steps.{state_of}
use Rattle.construction.specs.Machines.{is_in, configuration, heard_of, heard_by}
use Rattle.construction.specs.Machines.{IsConfiguration, IsTold, IsTable, IsNext, Run}
use Rattle.plan_laws.proofs.Ranges.{state_of-cut}
use Rattle.counter_core.specs.Meanings.{Meaning, cut}
use Rattle.counter_core.specs.Overlays.{Layer}
use Rattle.layer_laws.specs.Counters.{HasFront}
use Rattle.layer_laws.specs.Scenes.{Scene, kept_of, layer_step, new_state}
use Rattle.layer_laws.specs.CounterLayers.{IsLayerState, IsLayerConfiguration, IsLayerTold}
use Rattle.layer_laws.specs.CounterLayers.{IsLayerTable, LayerRun, scene, without_layer}

-- a choice of two states, cut
cut_choice : (d : ℕ) (b : Bool) (s t : State) → cond b (cut d s) (cut d t) ≡ cut d (cond b s t)
cut_choice d true s t = refl
cut_choice d false s t = refl

-- the front of a new state is the counter's step
pub new_front : {Kept : Type 0} (counter : Meaning) (layer : Layer Kept) (at : ℕ) (kept : Kept)
    (v : ℕ) (heard : List State) → length (counter.next v heard).registers ≡ counter.depth
    → cut counter.depth (new_state counter layer at kept v heard) ≡ counter.next v heard
new_front counter layer at kept v heard deep =
    let step : State = counter.next v heard in
    ap (λ (registers : List Reg). let s : State = record { x = step.x; registers = registers } in s)
    (take_at step.registers (layer_step counter layer at kept v heard).registers counter.depth deep)

-- and a register after it is one of the layer's
pub layer_register : {Kept : Type 0} (counter : Meaning) (layer : Layer Kept) (place at : ℕ)
    (kept : Kept) (v : ℕ) (heard : List State)
    → length (counter.next v heard).registers ≡ counter.depth
    → register_at (counter.depth + place) (new_state counter layer at kept v heard)
    ≡ get_or (layer_step counter layer at kept v heard).registers place zero_register
layer_register counter layer place at kept v heard deep =
    let front : List Reg = (counter.next v heard).registers in
    let new : List Reg = (layer_step counter layer at kept v heard).registers in
    ap (λ d. get_or (front ++ new) (d + place) zero_register) (sym deep)
    ∙ get_or-append-add front new place zero_register

module _ {Kept : Type 0} (counter : Meaning) (is_state : (v : ℕ) → State → Type 0)
    (layer : Layer Kept) (faulty : List ℕ) where
  abbrev d : ℕ
  d = counter.depth

  abbrev cut_config : List State → List State
  cut_config = map (cut d)

  cut_is : (config : List State) → IsLayerConfiguration counter is_state layer config
      → IsConfiguration counter is_state (cut_config config)
  cut_is config is = record {
    size = length-map config (cut d) ∙ is.size;
    states = λ v lt. subst (is_state v) (sym (state_of-cut d config v)) (is.states v lt).front;
  }

  told_is : (u : ℕ) (told : List State) → IsLayerTold counter is_state layer u told
      → IsTold counter is_state u (cut_config told)
  told_is u told is = record {
    size = length-map told (cut d) ∙ is.size;
    states =
        All-map (is_state u) (cut d) told
        (All-weaker (IsLayerState counter is_state layer u) (λ s. is_state u (cut d s))
        (λ s state. state.front) told is.states);
  }

  row_cut : (lies : List (List State)) → IsLayerTable counter is_state layer lies → (u : ℕ)
      → u < counter.nodes → get_or (map cut_config lies) u [] ≡ cut_config (get_or lies u [])
  row_cut lies is u lt =
      get_or-map cut_config lies u [] [] (let s = is.size in omega (arith, lt, s))

  table_is : (lies : List (List State)) → IsLayerTable counter is_state layer lies
      → IsTable counter is_state (map cut_config lies)
  table_is lies is = record {
    size = length-map lies cut_config ∙ is.size;
    rows =
        λ u lt. subst (IsTold counter is_state u) (sym (row_cut lies is u lt))
        (told_is u (get_or lies u []) (is.rows u lt));
  }

  -- what is heard of cut states is what is heard, cut
  module _ (old : List State) (lies : List (List State)) (v : ℕ)
      (own : IsLayerConfiguration counter is_state layer old)
      (table : IsLayerTable counter is_state layer lies)
      (vlt : v < counter.nodes) where
    told_cut : (u : ℕ) → u < counter.nodes
        → state_of (get_or (map cut_config lies) u []) v ≡ cut d (state_of (get_or lies u []) v)
    told_cut u ult =
        ap (λ (r : List State). state_of r v) (row_cut lies table u ult)
        ∙ state_of-cut d (get_or lies u []) v

    one_cut : (u : ℕ) → u < counter.nodes
        → heard_of faulty (cut_config old) (map cut_config lies) v u
        ≡ cut d (heard_of faulty old lies v u)
    one_cut u ult =
        let test : Bool = u == v || not (is_in faulty u) in
        ap₂ (λ (s t : State). cond test s t) (state_of-cut d old u) (told_cut u ult)
        ∙ cut_choice d test (state_of old u) (state_of (get_or lies u []) v)

    heard_cut : heard_by counter.nodes faulty (cut_config old) (map cut_config lies) v
        ≡ cut_config (heard_by counter.nodes faulty old lies v)
    heard_cut =
        let n : ℕ = counter.nodes in
        let f : ℕ → State = heard_of faulty (cut_config old) (map cut_config lies) v in
        let g : ℕ → State = heard_of faulty old lies v in
        let all : List State = map g (range_with_len 0 n) in
        let long : length all ≡ n = length-map-range_with_len g 0 n in
        sym (fill_by_all f (cut_config all) n (zero_state 0) (length-map all (cut d) ∙ long)
        (λ u ult. state_of-cut d all u
        ∙ (ap (cut d) (get_or-map-range_with_len g 0 n u u (zero_state 0) ult (omega arith))
        ∙ sym (one_cut u ult))))

  module _ (first : ℕ) (run : List (Scene Kept))
      (is : LayerRun counter is_state layer faulty first run) where
    pub configuration_at : (t : ℕ) → t < length run
        → IsLayerConfiguration counter is_state layer (scene run t).states
    configuration_at t lt =
        All-get_or (λ (s : Scene Kept). IsLayerConfiguration counter is_state layer s.states) run t
        (record { states = []; kept = [] }) lt is.configurations

    pub cut_at : (t : ℕ) → t < length run
        → configuration (without_layer counter run) t ≡ cut_config (scene run t).states
    cut_at t lt =
        get_or-map (λ (s : Scene Kept). cut_config s.states) run t
        (record { states = []; kept = [] }) [] lt

    -- if further registers stand apart
    module _ (front : HasFront counter) where
      next_is : (t : ℕ) → t + 1 < length run
          → IsNext counter is_state faulty (cut_config (scene run t).states)
          (cut_config (scene run (t + 1)).states)
      next_is t lt =
          let next = is.rounds t lt in
          let old : List State = (scene run t).states in
          let new : List State = (scene run (t + 1)).states in
          record {
            lies = map cut_config next.lies;
            round = record {
              table = table_is next.lies next.round.table;
              steps = λ v vlt correct.
                  let heard : List State = heard_by counter.nodes faulty old next.lies v in
                  state_of-cut d new v
                  ∙ (ap (cut d) (next.round.steps v vlt correct).state
                  ∙ (new_front counter layer (first + t) (kept_of layer (scene run t) v) v heard
                  (front.deep v heard vlt)
                  ∙ (sym
                  (front.next v heard vlt
                  (length-map-range_with_len (heard_of faulty old next.lies v) 0 counter.nodes))
                  ∙ ap (counter.next v)
                  (sym
                  (heard_cut old next.lies v (configuration_at t (omega arith)) next.round.table
                  vlt)))));
            };
          }

      pub cut_run : Run counter is_state faulty (without_layer counter run)
      cut_run =
          let size : length (without_layer counter run)
          ≡ length run = length-map run (λ (s : Scene Kept). cut_config s.states) in
          record {
            some = let some = is.some in omega (arith, size);
            configurations =
                All-map (IsConfiguration counter is_state) (λ (s : Scene Kept). cut_config s.states)
                run
                (All-weaker
                (λ (s : Scene Kept). IsLayerConfiguration counter is_state layer s.states)
                (λ s. IsConfiguration counter is_state (cut_config s.states))
                (λ s config. cut_is s.states config) run is.configurations);
            rounds = λ t lt.
                let lt' : t + 1 < length run = omega (arith, size) in
                rw (cut_at t (omega arith), cut_at (t + 1) lt') (next_is t lt');
          }
