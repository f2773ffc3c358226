-- A configuration of a script's nodes, as the machine and the layer take it.
use Rattle.std.proofs.Common.{◌≡◌, ℕ, ◌<◌, List, length, All, ◌∙◌, subst, arith}
use Rattle.sync_types.specs.States.{State}
use Rattle.construction.specs.Steps.{state_of}
use Rattle.counter_core.specs.Overlays.{Layer, HasValues}
use Rattle.state_codec.specs.Shapes.{Shape, fields_at}
use Rattle.state_codec.specs.Ranges.{InRange}
use Rattle.machines.specs.Machines.{Machine, AreFronts}
use Rattle.machines.specs.Laws.{IsSound}
use Rattle.adversary_script.specs.Scripts.{Script}
use Rattle.machine_runner.proofs.Places.{all_places}
use Rattle.rounds.proofs.Hearing.{depth_of_node}
use Rattle.player.specs.ReadOver.{IsReadWithLayer}
use Rattle.player.specs.Rooms.{IsBegun}
use Rattle.player.specs.declared.stepping.Room.{Room}
use Rattle.player.proofs.ReadOver.{front_is, values_are}

module _ {Kept : Type 0} (machine : Machine) (layer : Layer Kept) (script : Script) (shape : Shape)
    (config : List State) (sound : IsSound machine) (read : IsReadWithLayer machine layer script)
    (same : shape ≡ script.shape) (size : length config ≡ script.nodes)
    (range : (u : ℕ) → u < length config → InRange (fields_at shape u) (state_of config u)) where
  range_at : (u : ℕ) → u < length config → InRange (fields_at script.shape u) (state_of config u)
  range_at u lt = subst (λ (s : Shape). InRange (fields_at s u) (state_of config u)) same
      (range u lt)

  pub fronts_of : AreFronts machine config
  fronts_of =
      let nodes = read.right.nodes in
      record {
        size = size ∙ nodes;
        fronts = λ u lt.
            let here = range_at u (omega (arith, lt, size, nodes)) in
            let long = depth_of_node script.shape u (state_of config u) here in
            let depth = read.shape.depth in
            record {
              deep = omega (arith, long, depth);
              front = front_is machine layer script sound read u lt (state_of config u) here;
            };
      }

  pub values_of : All (HasValues layer) config
  values_of = all_places (HasValues layer) config (λ u lt.
      let nodes = read.right.nodes in
      values_are machine layer script sound read u (omega (arith, lt, size, nodes))
      (state_of config u) (range_at u lt))

-- a round that has begun, with the same layer and configuration
pub begun_with : {Kept : Type 0} (layer other : Layer Kept) (script : Script) (t : ℕ)
    (ids : List ℕ) (config states : List State) (room : Room) → layer ≡ other → config ≡ states
    → IsBegun layer script t ids config room → IsBegun other script t ids states room
begun_with layer other script t ids config states room same is begun =
    subst (λ (l : Layer _). IsBegun l script t ids states room) same
    (subst (λ (xs : List State). IsBegun layer script t ids xs room) is begun)
