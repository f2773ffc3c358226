-- The states of a script's node are those of the machine's node with the layer's registers after
-- its own.
use Rattle.std.proofs.Common.{◌≡◌, ℕ, ◌+◌, ◌<◌, List, length, drop, sym, ◌∙◌}
use Rattle.std.proofs.Common.{subst, arith}
use Rattle.std.specs.Prelude.{IfSome}
use Rattle.std.proofs.lemmas.List.{length-drop, get_or-drop, take-append-drop}
use Rattle.std.proofs.lemmas.List.Elements.{All-from_get_or}
use Rattle.sync_types.specs.declared.states.Reg.{Reg}
use Rattle.sync_types.specs.States.{State, register_at, zero_register}
use Rattle.counter_core.specs.Meanings.{cut}
use Rattle.counter_core.specs.Overlays.{Layer, AreBelow}
use Rattle.state_codec.specs.Shapes.{fields_at}
use Rattle.state_codec.specs.Ranges.{InRange}
use Rattle.machines.specs.Machines.{Machine, IsState}
use Rattle.machines.specs.Laws.{IsSound}
use Rattle.adversary_script.specs.Scripts.{Script}
use Rattle.adversary_script.proofs.LiesInRange.{depth_of_node}
use Rattle.layer_laws.specs.CounterLayers.{IsLayerState}
use Rattle.player.specs.Counters.{machine_counter}
use Rattle.layer_runner.specs.Laws.{StatesFit}
use Rattle.player.specs.ReadOver.{IsReadWithLayer}
use Rattle.player.proofs.ReadOver.{front_is, values_are, joined}

module _ {Kept : Type 0} (machine : Machine) (layer : Layer Kept) (script : Script)
    (sound : IsSound machine) (is : IsReadWithLayer machine layer script) (v : ℕ)
    (node : v < machine.nodes) (s : State) where
  abbrev IsOfLayer : Type 0
  IsOfLayer = IsLayerState (machine_counter machine) (IsState machine) layer v s

  pub state_of_layer : InRange (fields_at script.shape v) s → IsOfLayer
  state_of_layer range = record {
    front = front_is machine layer script sound is v node s range;
    size = depth_of_node script.shape v s range ∙ is.shape.depth;
    values = values_are machine layer script sound is v node s range;
  }

  -- the registers after the machine's own
  abbrev behind : List Reg
  behind = drop machine.depth s.registers

  behind_long : IsOfLayer → length behind ≡ layer.extra
  behind_long state =
      let size = state.size in
      let long = length-drop machine.depth s.registers in
      omega (arith, size, long)

  behind_below : IsOfLayer → AreBelow layer.values behind
  behind_below state = All-from_get_or (λ (r : Reg). IfSome r.a (λ a. a < layer.values)) behind
      zero_register (λ i lt.
      let inside : i < layer.extra = let long = behind_long state in omega (arith, lt, long) in
      let same : layer.depth ≡ machine.depth = (is.over (omega (arith, inside))).depth in
      subst (λ (r : Reg). IfSome r.a (λ a. a < layer.values))
      (sym (get_or-drop machine.depth s.registers i zero_register))
      (subst (λ (d : ℕ). IfSome (register_at (d + i) s).a (λ a. a < layer.values)) same
      (state.values i inside)))

  pub in_range : IsOfLayer → InRange (fields_at script.shape v) s
  in_range state =
      subst (λ (rs : List Reg). let t : State = record { x = s.x; registers = rs } in
      InRange (fields_at script.shape v) t) (take-append-drop machine.depth s.registers)
      (joined machine layer script sound is v node (cut machine.depth s) behind state.front
      (behind_long state) (behind_below state))

pub states_fit : {Kept : Type 0} (layer : Layer Kept) → StatesFit layer
states_fit layer machine script sound is v node s = (
  state_of_layer machine layer script sound is v node s,
  in_range machine layer script sound is v node s,
)
