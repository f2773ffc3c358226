use Rattle.replicated_log.proofs.ChangingCommands as law
use Rattle.replicated_log.proofs.laws.changing_logs_are_one_over.Goals as goal

pub returns : goal.returns
returns c end counter = law.changing_logs_are_one_over _ _
