use Rattle.answers.proofs.ReadLayers.{for_runner}
use Rattle.answers.proofs.runners.runner_of.Goals as goal

pub new-requires-clause-plan : goal.new-requires-clause-plan
new-requires-clause-plan g c =
    for_runner _ _ (g.O.Overlay.layer c.args.overlay) _ c.args.script c.in_ok-tower.ensures.plan
    c.requires.over c.requires.shape c.requires.script
