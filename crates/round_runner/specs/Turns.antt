-- A round of a script on the counter of its plan, and what goes through it.
use Rattle.std.specs.Prelude.{◌≡◌, ℕ, ◌+◌, ◌<◌, List, length}
use Rattle.sync_types.specs.States.{State}
use Rattle.construction.specs.Plans.{plan_nodes}
use Rattle.construction.specs.Runs.{IsToleratedBy}
use Rattle.plan_numbers.specs.Premises.{IsAccepted}
use Rattle.plan_laws.specs.PlanMeaning.{plan_meaning, IsInRange}
use Rattle.state_codec.specs.Packs.{Pack}
use Rattle.shared_board.specs.Sharing.{stands_for}
use Rattle.counter_core.specs.Overlays.{Layer, LayerFits}
use Rattle.adversary_script.specs.Scripts.{IsScript}
use Rattle.adversary_script.specs.Eras.{faulty_at}
use Rattle.round_runner.specs.declared.hearers.Hearer.{Hearer}
use Rattle.round_runner.specs.declared.stepping.RoundBuffers.{RoundBuffers}
use Rattle.round_runner.specs.declared.turns.Round.{Round}
use Rattle.round_runner.specs.declared.turns.NodeStep.{NodeStep}
use Rattle.machine_runner.specs.Beginnings.{BeginsAt}
use Rattle.round_runner.specs.Fits.{ShapeFits}
use Rattle.round_runner.specs.Laying.{IsLaid}
use Rattle.round_runner.specs.Played.{heard_at}
use Rattle.round_runner.specs.Rooms.{IsReady}

-- It is one of the script, and the plan tolerates the nodes that are faulty in it.
pub record IsRound (r : Round) : Type 0 where
  pub accepted : IsAccepted r.tower.now
  pub script : IsScript r.script.now
  pub nodes : r.script.now.nodes ≡ plan_nodes r.tower.now
  pub borne : IsToleratedBy r.tower.now (faulty_at r.script.now r.t)
  pub faulty : r.faulty.now
      ≡ record { nodes = r.script.now.nodes; ids = faulty_at r.script.now r.t }
  pub round : r.t < r.script.now.rounds
  pub begins : BeginsAt r.script.now (r.t + 1) r.begins

-- the round tells a hearer what the script says, with this key for its noise
pub record IsOf (round : Round) (hearer : Hearer) (key : List ℕ) : Type 0 where
  pub faulty : hearer.faulty.now ≡ round.faulty.now
  pub nodes : plan_nodes hearer.tower.now ≡ round.script.now.nodes
  pub shape : hearer.states.now.shape ≡ round.script.now.shape
  pub noise : key ≡ round.script.now.key

-- what the node hears
abbrev pub heard_in : NodeStep → List State
heard_in turn = heard_at turn.round.now.script.now turn.round.now.t turn.states.now.current turn.v

-- the layer, the configuration and the room are those of the round
pub record IsSet {Kept : Type 0} (round : Round) (layer : Layer Kept) (states : Pack)
    (room : RoundBuffers) : Type 0 where
  pub fits : ShapeFits round.script.now.shape (plan_meaning round.tower.now)
      (IsInRange round.tower.now) layer
  pub over : LayerFits layer (plan_meaning round.tower.now)
  pub shape : states.shape ≡ round.script.now.shape
  pub size : length states.current ≡ round.script.now.nodes
  pub ready : IsReady round.tower.now round.script.now room

-- They are set, what all receivers share is counted, and if a layer hears, the states of the
-- correct nodes stand in their places.
pub record IsGathered {Kept : Type 0} (round : Round) (layer : Layer Kept) (states : Pack)
    (room : RoundBuffers) : Type 0 where
  pub set : IsSet round layer states room
  pub stands : room.step.shared
      ≡ stands_for round.tower.now states.current (faulty_at round.script.now round.t)
  pub laid : 0 < layer.extra → IsLaid round.script.now round.t states.current room.heard.items
