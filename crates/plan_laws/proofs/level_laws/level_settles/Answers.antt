use Rattle.plan_laws.proofs.Settles.{settles}
use Rattle.plan_laws.proofs.level_laws.level_settles.Goals as goal

pub returns : goal.returns
returns c = settles
