-- A node can step, by what is read of its configuration.
use Rattle.std.proofs.Common.{ℕ, ◌<◌, length}
use Rattle.construction.specs.Steps.{state_of}
use Rattle.counter_core.specs.Overlays.{Layer, KeepsRange}
use Rattle.state_codec.specs.Shapes.{fields_at}
use Rattle.state_codec.specs.Ranges.{InRange}
use Rattle.machines.specs.Machines.{Machine}
use Rattle.machines.specs.Laws.{IsSound}
use Rattle.adversary_script.specs.Scripts.{Script}
use Rattle.machine_runner.proofs.Keeping.{range_of}
use Rattle.player.specs.ReadOver.{IsReadWithLayer}
use Rattle.player.specs.declared.stepping.NodeStep.{NodeStep}
use Rattle.player.proofs.LayerSteps.{CanTurn}

pub can_turn : {Kept : Type 0} (machine : Machine) (layer : Layer Kept) (turn : NodeStep)
    → IsSound machine → IsReadWithLayer machine layer turn.round.now.script.now → KeepsRange layer
    → ((u : ℕ) → u < length turn.states.now.current
    → InRange (fields_at turn.states.now.shape u) (state_of turn.states.now.current u))
    → CanTurn machine layer turn.round.now.script.now turn.v turn.states.now.current
can_turn machine layer turn sound read keeps range =
    let script : Script = turn.round.now.script.now in
    record {
      sound = sound;
      read = read;
      keeps = keeps;
      node = turn.node;
      range = range_of turn.states.now.shape script.shape script.nodes turn.states.now.current
          turn.shape turn.size range;
    }
