-- Layers whose inputs or commands change have runs: there is a scene to begin with, and after each
-- one, whatever faulty nodes tell, a next one.
use Rattle.std.specs.Prelude.{ℕ, ◌<◌, List}
use Rattle.sync_types.specs.States.{State}
use Rattle.construction.specs.Plans.{Plan, plan_nodes}
use Rattle.plan_numbers.specs.Premises.{IsAccepted}
use Rattle.counter_core.specs.Overlays.{Layer, KeepsRange}
use Rattle.layer_laws.specs.Scenes.{Scene}
use Rattle.layer_laws.specs.LayerRuns.{IsLayerConfiguration, IsLayerTable, LayerRound}
use Rattle.layer_laws.specs.Played.{IsKeptFor}
use Rattle.consensus_layer.specs.ChangingInputs as inputs
use Rattle.replicated_log.specs.ChangingCommands as commands

-- a next scene after the round of a number with this table of lies: a state of each node is in
-- range, the puppets of faulty ones too, and something is kept for each
pub record GoesOn {Kept : Type 0} (plan : Plan) (layer : Layer Kept) (faulty : List ℕ) (at : ℕ)
    (old : Scene Kept) (lies : List (List State)) : Type 0 where
  pub new : Scene Kept
  pub states : IsLayerConfiguration plan layer new.states
  pub kept : IsKeptFor (plan_nodes plan) new.kept
  pub round : LayerRound plan layer faulty at old lies new

-- The layer's step keeps values in range, some configuration is in range, and each scene in range
-- goes on in each round, with each table of lies. So there are runs of any length.
pub record HasRuns {Kept : Type 0} (plan : Plan) (layer : Layer Kept) : Type 0 where
  pub keeps : KeepsRange layer
  pub start : List State
  pub starts : IsLayerConfiguration plan layer start
  pub goes_on : (faulty : List ℕ) (at : ℕ) (old : Scene Kept)
      → IsLayerConfiguration plan layer old.states → IsKeptFor (plan_nodes plan) old.kept
      → (lies : List (List State)) → IsLayerTable plan layer lies
      → GoesOn plan layer faulty at old lies

-- whatever inputs below the values the nodes have in each round
abbrev pub ChangingInputsHaveRuns : Type 0
ChangingInputsHaveRuns = (plan : Plan) → IsAccepted plan
    → (values : ℕ) (input : (v t : ℕ) → ℕ)
    → ((v t : ℕ) → v < plan_nodes plan → input v t < values)
    → HasRuns plan (inputs.changing_layer plan values input)

-- and whatever they command
abbrev pub ChangingCommandsHaveRuns : Type 0
ChangingCommandsHaveRuns = (plan : Plan) → IsAccepted plan
    → (values keep : ℕ) (command : (v t : ℕ) → ℕ)
    → ((v t : ℕ) → v < plan_nodes plan → command v t < values)
    → HasRuns plan (commands.changing_layer plan values keep command)
