use Rattle.replicated_log.proofs.ChangingCommands as law
use Rattle.replicated_log.proofs.laws.changing_commands_put_one.Goals as goal

pub returns : goal.returns
returns c = law.changing_commands_put_one
