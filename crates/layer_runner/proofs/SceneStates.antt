-- The states of each scene that is played of a script with a layer, and what is told in each round,
-- are the nodes' own.
use Rattle.std.proofs.Common.{◌≡◌, ℕ, zero, suc, ◌+◌, ◌<◌, List, [], length, map, sym, ◌∙◌, subst}
use Rattle.std.proofs.Common.{arith}
use Rattle.std.specs.List.{range_with_len}
use Rattle.std.proofs.lemmas.List.FromFn.{length-map-range_with_len, get_or-map-range_with_len}
use Rattle.sync_types.specs.States.{State}
use Rattle.counter_core.specs.Meanings.{Meaning}
use Rattle.counter_core.specs.Overlays.{Layer}
use Rattle.state_codec.specs.Shapes.{fields_at}
use Rattle.state_codec.specs.Ranges.{InRange}
use Rattle.machines.specs.Machines.{Machine, IsState}
use Rattle.adversary_script.specs.Scripts.{Script}
use Rattle.adversary_script.specs.Lookup.{hit_at}
use Rattle.adversary_script.specs.Lies.{AreStates, start_of, lie_of}
use Rattle.adversary_script.specs.Rounds.{lies_at}
use Rattle.adversary_script.proofs.LiesInRange.{starts_in_range, lies_in_range}
use Rattle.layer_laws.specs.CounterLayers.{IsLayerState, IsLayerConfiguration, IsLayerTold}
use Rattle.layer_laws.specs.CounterLayers.{IsLayerTable}
use Rattle.layer_laws.specs.PlayedScenes.{begun_kept, state_behind}
use Rattle.machine_runner.proofs.Hits.{put_has, hit_has}
use Rattle.counter_core.proofs.StateLists.{each_below}
use Rattle.machine_runner.proofs.Places.{placed}
use Rattle.player.specs.Counters.{machine_counter}
use Rattle.layer_runner.specs.Laws.{IsPlayable, played_scene, played_states}
use Rattle.player.proofs.LayerSteps.{new_in_range}
use Rattle.layer_runner.proofs.StatesFit.{state_of_layer}

module _ {Kept : Type 0} (machine : Machine) (script : Script) (layer : Layer Kept)
    (began : List Kept) (is : IsPlayable machine script layer began) where
  abbrev counter : Meaning
  counter = machine_counter machine

  -- a state of a node's fields is one of the machine's node with the layer's registers after its
  -- own
  pub layer_state : (v : ℕ) → v < script.nodes → (s : State)
      → InRange (fields_at script.shape v) s
      → IsLayerState counter (IsState machine) layer v s
  layer_state v lt s range =
      let nodes = is.read.right.nodes in
      state_of_layer machine layer script is.sound is.read v (omega (arith, lt, nodes)) s range

  pub range_at : (t : ℕ)
      → AreStates script.nodes script.shape (played_states machine script layer began t)
  range_at zero = placed (λ v s. InRange (fields_at script.shape v) s) (start_of script)
      script.nodes (λ v lt. starts_in_range script is.read.whole is.read.shape.sound v)
  range_at (suc t) =
      let before = played_scene machine script layer began t in
      let kept : List Kept = begun_kept layer t before.kept in
      placed (λ v s. InRange (fields_at script.shape v) s)
      (state_behind counter script layer t before.states kept) script.nodes
      (λ v lt. put_has (InRange (fields_at script.shape v)) (hit_at script (t + 1) v) _
      (hit_has script is.read.whole (InRange (fields_at script.shape v)) (t + 1) v
      (λ s range. range))
      (new_in_range machine layer script t v before.states (record {
        sound = is.sound;
        read = is.read;
        keeps = is.keeps;
        node = lt;
        range = range_at t;
      }) kept))

  pub size_at : (t : ℕ) → length (played_states machine script layer began t) ≡ script.nodes
  size_at zero = length-map-range_with_len (start_of script) 0 script.nodes
  size_at (suc t) =
      let before = played_scene machine script layer began t in
      length-map-range_with_len (state_behind counter script layer t before.states
      (begun_kept layer t before.kept)) 0 script.nodes

  pub configuration_is : (t : ℕ) → IsLayerConfiguration counter (IsState machine) layer
      (played_states machine script layer began t)
  configuration_is t = record {
    size = size_at t ∙ is.read.right.nodes;
    states = λ v lt.
        let inside : v < script.nodes = (let n = is.read.right.nodes in omega (arith, lt, n)) in
        layer_state v inside _ (range_at t v inside);
  }

  -- what is told in round t
  pub table_is : (t : ℕ) → IsLayerTable counter (IsState machine) layer
      (lies_at script t (played_states machine script layer began t))
  table_is t =
      let config : List State = played_states machine script layer began t in
      let row : ℕ → List State =
      λ u. map (λ v. lie_of script t u v config) (range_with_len 0 script.nodes) in
      let told : (u : ℕ) → u < script.nodes
      → IsLayerTold counter (IsState machine) layer u (row u) = λ u ult. record {
        size = length-map-range_with_len (λ v. lie_of script t u v config) 0 script.nodes
            ∙ is.read.right.nodes;
        states = each_below (IsLayerState counter (IsState machine) layer u)
            (λ v. lie_of script t u v config) script.nodes
            (λ v vlt. layer_state u ult (lie_of script t u v config)
            (lies_in_range script is.read.whole is.read.shape.sound t u v config (range_at t)
            ult));
      } in
      record {
        size = length-map-range_with_len row 0 script.nodes ∙ is.read.right.nodes;
        rows = λ u lt.
            let ult : u < script.nodes = (let n = is.read.right.nodes in omega (arith, lt, n)) in
            subst (IsLayerTold counter (IsState machine) layer u)
            (sym (get_or-map-range_with_len row 0 script.nodes u u [] ult (omega arith)))
            (told u ult);
      }
