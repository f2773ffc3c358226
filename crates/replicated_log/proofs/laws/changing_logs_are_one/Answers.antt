use Rattle.replicated_log.proofs.ChangingCommands as law
use Rattle.replicated_log.proofs.laws.changing_logs_are_one.Goals as goal

pub returns : goal.returns
returns c = law.changing_logs_are_one
