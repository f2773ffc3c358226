use Rattle.replicated_log.proofs.SameLogs as law
use Rattle.replicated_log.proofs.laws.logs_are_one_over.Goals as goal

pub returns : goal.returns
returns c end counter = law.logs_are_one_over _ _
