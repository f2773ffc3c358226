-- What a node hears of the faulty ones in a round.
use Rattle.std.specs.Prelude.{◌≡◌}
use Rattle.construction.specs.Plans.{plan_depth}
use Rattle.round_runner.specs.declared.hearers.Hearer.{Hearer}
use Rattle.run_checker.specs.declared.turns.NodeStep.{NodeStep}
use Rattle.run_checker.specs.Rounds.{AreStates}

-- the node that steps is the one that hears, and what is told are states
pub record IsTo (turn : NodeStep) (hearer : Hearer) : Type 0 where
  pub node : hearer.v ≡ turn.v
  pub tower : hearer.tower.now ≡ turn.round.now.tower.now
  pub ids : hearer.faulty.now.ids ≡ turn.round.now.faulty.now.ids
  pub depth : hearer.states.now.shape.depth ≡ plan_depth turn.round.now.tower.now
  pub said : AreStates turn.round.now.tower.now turn.round.now.told.now.states
