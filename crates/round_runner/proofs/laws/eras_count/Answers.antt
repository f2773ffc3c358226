use Rattle.round_runner.proofs.EraRuns as laws
use Rattle.round_runner.proofs.laws.eras_count.Goals as goal

pub returns : goal.returns
returns c = laws.eras_count c.every_plan_settles.ensures
