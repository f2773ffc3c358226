-- The states of each scene that is played of a script with a layer, and what is told and heard in
-- each round, are the nodes' own.
use Rattle.std.proofs.Common.{◌≡◌, ℕ, zero, suc, ◌+◌, ◌<◌, List, [], length, map, get_or, All, sym}
use Rattle.std.proofs.Common.{◌∙◌, subst, arith}
use Rattle.std.specs.List.{range_with_len}
use Rattle.std.proofs.lemmas.List.Elements.{All-from_get_or}
use Rattle.std.proofs.lemmas.List.FromFn.{length-map-range_with_len, get_or-map-range_with_len}
use Rattle.sync_types.specs.States.{State, zero_state}
use Rattle.construction.specs.Plans.{Plan, plan_nodes, plan_modulus, plan_depth}
use Rattle.construction.specs.Shown.{shown}
use Rattle.construction.specs.Steps.{state_of}
use Rattle.plan_laws.specs.PlanMeaning.{plan_meaning, IsInRange}
use Rattle.plan_laws.proofs.PlanCounter.{positive, plan_sizes}
use Rattle.plan_laws.proofs.Ranges.{shown_of_cut, range_of_state}
use Rattle.counter_core.specs.Meanings.{cut}
use Rattle.counter_core.specs.Overlays.{Layer, SameNumbers, HasRegisters, HasValues, KeepsRange}
use Rattle.counter_core.specs.Overlays.{MayHear, AreNew}
use Rattle.state_codec.specs.Shapes.{Shape, IsShape, shape_with, fields_at}
use Rattle.state_codec.specs.Ranges.{InRange}
use Rattle.adversary_script.specs.Scripts.{Script}
use Rattle.adversary_script.specs.Lookup.{hit_at}
use Rattle.adversary_script.specs.Lies.{AreStates, start_of, lie_of}
use Rattle.adversary_script.proofs.LiesInRange.{starts_in_range, depth_of_node}
use Rattle.layer_laws.specs.LayerRuns.{IsLayerState, IsLayerConfiguration, IsLayerTold}
use Rattle.layer_laws.specs.LayerRuns.{IsLayerTable}
use Rattle.counter_core.proofs.StateLists.{each_below}
use Rattle.round_runner.specs.Fits.{ShapeFits}
use Rattle.round_runner.specs.Played.{lies_at, heard_at}
use Rattle.layer_laws.specs.PlayedScenes.{begun_kept, layer_step, new_state, state_behind, scene_at}
use Rattle.round_runner.proofs.Fitting.{front_is, layer_fits}
use Rattle.machine_runner.proofs.Hits.{put_has, hit_has}
use Rattle.machine_runner.proofs.Places.{placed}
use Rattle.round_runner.proofs.ScenesRun.{size_at}
use Rattle.promises.specs.LayeredEras.{IsReadFor}
use Rattle.promises.proofs.Heard.{lie_is, heard_long, heard_is}

-- all states of a list, by place
all_by_place : (P : State → Type 0) (heard : List State) (n : ℕ) → length heard ≡ n
    → ((v : ℕ) → v < n → P (state_of heard v)) → All P heard
all_by_place P heard n long holds =
    All-from_get_or P heard (zero_state 0) (λ v lt. holds v (omega (arith, lt, long)))

module _ {Kept : Type 0} (plan : Plan) (script : Script) (layer : Layer Kept)
    (keeps : KeepsRange layer) (is : IsReadFor plan layer script) where
  fits : ShapeFits script.shape (plan_meaning plan) (IsInRange plan) layer
  fits = layer_fits plan layer script.shape is.accepted is.right.shape is.sound is.right.over

  further : IsShape (shape_with plan layer.values layer.extra)
  further = subst IsShape is.right.shape is.sound

  -- a state of a node's fields is one of the plan's node with the layer's registers after its own
  pub layer_state : (v : ℕ) → v < plan_nodes plan → (s : State)
      → InRange (fields_at script.shape v) s → IsLayerState plan layer v s
  layer_state v lt s range = record {
    front = front_is plan layer is.accepted further v lt s
        (subst (λ (shape : Shape). InRange (fields_at shape v) s) is.right.shape range);
    size = depth_of_node script.shape v s range ∙ fits.depth;
    values = fits.values v lt s range;
  }

  -- what such a state shows is below the modulus
  pub shows_below : (v : ℕ) (s : State) → v < plan_nodes plan → IsLayerState plan layer v s
      → shown (plan_depth plan) s < plan_modulus plan
  shows_below v s lt state =
      let some = positive plan.base plan.levels is.accepted.levels in
      subst (λ y. y < plan_modulus plan)
      (shown_of_cut (plan_depth plan) (plan_depth plan) (omega arith) s)
      ((plan_sizes plan is.accepted).shown v (cut (plan_depth plan) s) lt
      (range_of_state plan some.0 some.1 v (cut (plan_depth plan) s) state.front))

  -- what is told in a round
  module _ (t : ℕ) (config : List State) (range : AreStates script.nodes script.shape config) where
    pub table_is : IsLayerTable plan layer (lies_at script t config)
    table_is =
        let row : ℕ → List State =
        λ u. map (λ v. lie_of script t u v config) (range_with_len 0 script.nodes) in
        let told : (u : ℕ) → u < script.nodes → IsLayerTold plan layer u (row u) = λ u ult. record {
          size = length-map-range_with_len (λ v. lie_of script t u v config) 0 script.nodes
              ∙ is.right.nodes;
          states = each_below (IsLayerState plan layer u) (λ v. lie_of script t u v config)
              script.nodes
              (λ v vlt. layer_state u (let n = is.right.nodes in omega arith)
              (lie_of script t u v config)
              (lie_is script is.whole is.sound t config range u v ult));
        } in
        record {
          size = length-map-range_with_len row 0 script.nodes ∙ is.right.nodes;
          rows = λ u lt.
              let ult : u < script.nodes = (let n = is.right.nodes in omega arith) in
              subst (IsLayerTold plan layer u)
              (sym (get_or-map-range_with_len row 0 script.nodes u u [] ult (omega arith)))
              (told u ult);
        }

    -- and what is heard
    module _ (v : ℕ) (vlt : v < script.nodes) where
      abbrev heard : List State
      heard = heard_at script t config v

      hears : (u : ℕ) → u < script.nodes → IsLayerState plan layer u (state_of heard u)
      hears u ult = layer_state u (let n = is.right.nodes in omega arith) (state_of heard u)
          (heard_is script is.whole is.sound t config range v vlt u ult)

      may_hear : SameNumbers layer (plan_meaning plan)
          → MayHear layer v (shown (plan_depth plan) (state_of heard v)) heard
      may_hear same =
          let n = is.right.nodes in
          let nodes = same.nodes in
          let modulus = same.modulus in
          let depth = same.depth in
          let long = heard_long script is.whole is.sound t config range v vlt in
          record {
            node = omega (arith, vlt, nodes, n);
            output =
                let below = shows_below v (state_of heard v) (omega (arith, vlt, n))
                (hears v vlt) in
                omega (arith, below, modulus);
            size = long ∙ (is.right.nodes ∙ sym same.nodes);
            deep = all_by_place (HasRegisters layer) heard script.nodes long
                (λ u ult. let size = (hears u ult).size in omega (arith, size, depth));
            range = all_by_place (HasValues layer) heard script.nodes long
                (λ u ult. (hears u ult).values);
          }

      -- so its new state, whatever nodes kept, is its own
      new_is : (kept : List Kept)
          → InRange (fields_at script.shape v) (new_state (plan_meaning plan) layer kept v heard)
      new_is kept =
          let new : AreNew layer (layer_step (plan_meaning plan) layer kept v heard).registers =
          keeps v (shown (plan_depth plan) (state_of heard v)) (get_or kept v layer.first) heard
          (λ some. may_hear (is.right.over some)) in
          fits.stepped v (let n = is.right.nodes in omega arith) heard
          (layer_step (plan_meaning plan) layer kept v heard).registers new.size new.range

  module _ (began : List Kept) where
    abbrev states_at : ℕ → List State
    states_at t = (scene_at (plan_meaning plan) script layer began t).states

    pub in_range_at : (t : ℕ) → AreStates script.nodes script.shape (states_at t)
    in_range_at zero = placed (λ v s. InRange (fields_at script.shape v) s) (start_of script)
        script.nodes (λ v lt. starts_in_range script is.whole is.sound v)
    in_range_at (suc t) =
        let before = scene_at (plan_meaning plan) script layer began t in
        let kept : List Kept = begun_kept layer t before.kept in
        placed (λ v s. InRange (fields_at script.shape v) s)
        (state_behind (plan_meaning plan) script layer t before.states kept) script.nodes
        (λ v lt. put_has (InRange (fields_at script.shape v)) (hit_at script (t + 1) v) _
        (hit_has script is.whole (InRange (fields_at script.shape v)) (t + 1) v (λ s range. range))
        (new_is t before.states (in_range_at t) v lt kept))

    pub configuration_is : (t : ℕ) → IsLayerConfiguration plan layer (states_at t)
    configuration_is t = record {
      size = size_at plan script layer began t ∙ is.right.nodes;
      states = λ v lt. layer_state v lt (state_of (states_at t) v)
          (in_range_at t v (let n = is.right.nodes in omega arith));
    }
