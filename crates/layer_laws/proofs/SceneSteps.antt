-- A node steps in each round of what is played with its layer, from what it hears and what it kept.
use Rattle.std.proofs.Common.{◌≡◌, inl, inr, ℕ, zero, suc, ◌+◌, ◌<◌, cond, List, ◌++◌, length}
use Rattle.std.proofs.Common.{get_or, Some, None, unwrap_or, add-one, refl, ap, ◌∙◌, arith}
use Rattle.std.proofs.lemmas.Bool.{lt-ltb}
use Rattle.std.proofs.lemmas.List.{length-map, get_or-map}
use Rattle.std.proofs.lemmas.List.FromFn.{length-map-range_with_len, get_or-map-range_with_len}
use Rattle.sync_types.specs.States.{State, zero_state}
use Rattle.construction.specs.Steps.{state_of}
use Rattle.construction.specs.Runs.{heard_by}
use Rattle.counter_core.specs.Meanings.{Meaning}
use Rattle.counter_core.specs.Overlays.{Layer}
use Rattle.adversary_script.specs.Scripts.{Script}
use Rattle.adversary_script.specs.Eras.{faulty_at}
use Rattle.adversary_script.specs.Lookup.{hit_at}
use Rattle.adversary_script.specs.Rounds.{lies_at, heard_at}
use Rattle.layer_laws.specs.CounterLayers.{StepsAs}
use Rattle.layer_laws.specs.CounterPlayed.{IsKeptFor}
use Rattle.layer_laws.specs.Scenes.{Scene, kept_of, layer_step, new_state}
use Rattle.layer_laws.specs.PlayedScenes.{begun_kept, kept_at, state_behind, scene_at}
use Rattle.layer_laws.specs.PlayedScenes as played

module _ {Kept : Type 0} (counter : Meaning) (script : Script) (layer : Layer Kept)
    (began : List Kept) (enough : IsKeptFor counter.nodes began)
    (nodes : script.nodes ≡ counter.nodes) where
  abbrev scenes : ℕ → Scene Kept
  scenes t = scene_at counter script layer began t

  -- as many things are kept as at first
  kept_long : (t : ℕ) → length (scenes t).kept ≡ length began
  kept_long zero = refl
  kept_long (suc t) =
      let before = scene_at counter script layer began t in
      let kept : List Kept = begun_kept layer t before.kept in
      length-map-range_with_len (kept_at counter script layer t before.states kept) 0
      (length kept)
      ∙ (length-map before.kept (layer.begun t) ∙ kept_long t)

  -- what a node keeps when a round has begun
  begun_is : IsKeptFor counter.nodes began → (t v : ℕ) → v < counter.nodes
      → get_or (begun_kept layer t (scenes t).kept) v layer.first
      ≡ layer.begun t (kept_of layer (scenes t) v)
  begun_is (inl one) t v lt = one _ _
  begun_is (inr many) t v lt =
      let long = kept_long t in
      get_or-map (layer.begun t) (scenes t).kept v layer.first layer.first
      (omega (arith, lt, many, long))

  -- the step from what nodes keep then is the layer's
  module _ (t v : ℕ) (lt : v < counter.nodes) (heard : List State) where
    abbrev kept : List Kept
    kept = begun_kept layer t (scenes t).kept

    step_is : played.layer_step counter layer kept v heard
        ≡ layer_step counter layer t (kept_of layer (scenes t) v) v heard
    step_is = ap (λ k. layer.next v k (counter.shows v (state_of heard v)) heard)
        (begun_is enough t v lt)

    state_is : played.new_state counter layer kept v heard
        ≡ new_state counter layer t (kept_of layer (scenes t) v) v heard
    state_is = ap (λ step. let s : State = record {
      x = (counter.next v heard).x;
      registers = (counter.next v heard).registers ++ step.registers;
    } in s) step_is

  -- a node that a start line puts into a state after a round is in it
  pub put_is : (t v : ℕ) (state : State) → v < counter.nodes → hit_at script (t + 1) v ≡ Some state
      → state_of (scenes (t + 1)).states v ≡ state
  put_is t v state lt hit =
      let kept : List Kept = begun_kept layer t (scenes t).kept in
      let config : List State = (scenes t).states in
      ap (λ k. state_of (scenes k).states v) (add-one t)
      ∙ get_or-map-range_with_len (state_behind counter script layer t config kept) 0
      script.nodes v v (zero_state 0) (omega (arith, lt, nodes)) (omega arith)
      ∙ ap (λ h. unwrap_or h (played.new_state counter layer kept v
      (heard_at script t config v))) hit

  -- a node steps from what it hears, if none puts it into a state
  module _ (t v : ℕ) (faulty : List ℕ) (same : faulty_at script t ≡ faulty)
      (lt : v < counter.nodes) where
    abbrev config : List State
    config = (scenes t).states

    abbrev hears : List State
    hears = heard_by counter.nodes faulty config (lies_at script t config) v

    heard_same : heard_at script t config v ≡ hears
    heard_same = ap (λ f. heard_by script.nodes f config (lies_at script t config) v) same
        ∙ ap (λ n. heard_by n faulty config (lies_at script t config) v) nodes

    state_next : hit_at script (t + 1) v ≡ None → state_of (scenes (suc t)).states v
        ≡ new_state counter layer t (kept_of layer (scenes t) v) v hears
    state_next none =
        let kept : List Kept = begun_kept layer t (scenes t).kept in
        let heard : List State = heard_at script t config v in
        get_or-map-range_with_len (state_behind counter script layer t config kept) 0
        script.nodes v v (zero_state 0) (omega (arith, lt, nodes)) (omega arith)
        ∙ ap (λ hit. unwrap_or hit (played.new_state counter layer kept v heard)) none
        ∙ state_is t v lt heard
        ∙ ap (new_state counter layer t (kept_of layer (scenes t) v) v) heard_same

    kept_next : IsKeptFor counter.nodes began → kept_of layer (scenes (suc t)) v
        ≡ (layer_step counter layer t (kept_of layer (scenes t) v) v hears).kept
    kept_next (inl one) = one _ _
    kept_next (inr many) =
        let kept : List Kept = begun_kept layer t (scenes t).kept in
        let heard : List State = heard_at script t config v in
        let long = kept_long t in
        let begun = length-map (scenes t).kept (layer.begun t) in
        get_or-map-range_with_len (kept_at counter script layer t config kept) 0
        (length kept) v v layer.first (omega (arith, lt, many, long, begun)) (omega arith)
        ∙ ap (λ b. cond b (played.layer_step counter layer kept v heard).kept
        (get_or kept v layer.first)) (lt-ltb v script.nodes (omega (arith, lt, nodes)))
        ∙ ap (λ step. step.kept) (step_is t v lt heard)
        ∙ ap (λ h. (layer_step counter layer t (kept_of layer (scenes t) v) v h).kept)
        heard_same

    pub steps_as : hit_at script (t + 1) v ≡ None
        → StepsAs counter layer t (scenes t) hears v (scenes (t + 1))
    steps_as none = rw (add-one t) (record { state = state_next none; kept = kept_next enough })

    -- what it keeps is what its step leaves, also if it is put into a state
    pub keeps_as : kept_of layer (scenes (t + 1)) v
        ≡ (layer_step counter layer t (kept_of layer (scenes t) v) v hears).kept
    keeps_as = rw (add-one t) (kept_next enough)
