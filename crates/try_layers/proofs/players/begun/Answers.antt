use Rattle.round_runner.proofs.Fitting.{without_layer}
use Rattle.try_layers.proofs.players.begun.Goals as goal

pub new-requires-clause-plan : goal.new-requires-clause-plan
new-requires-clause-plan c =
    rw c.in_ok-tower.ensures.plan
    (without_layer _ _ (rw c.in_ok-shape.ensures.shape at c.in_ok-script.ensures.borne))
