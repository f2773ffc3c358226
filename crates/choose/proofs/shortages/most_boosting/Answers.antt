use Rattle.choose.proofs.Short.{lone_can}
use Rattle.choose.proofs.shortages.most_boosting.Goals as goal

pub loop-f-init : goal.loop-f-init
loop-f-init c = lone_can c.args.n c.requires.0
