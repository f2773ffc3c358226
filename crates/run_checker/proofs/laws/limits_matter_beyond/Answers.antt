use Rattle.run_checker.proofs.Unlimited as unlimited
use Rattle.run_checker.proofs.laws.limits_matter_beyond.Goals as goal

pub returns : goal.returns
returns c = unlimited.limits_matter_beyond
