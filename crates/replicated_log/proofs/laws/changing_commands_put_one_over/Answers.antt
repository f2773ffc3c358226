use Rattle.replicated_log.proofs.ChangingCommands as law
use Rattle.replicated_log.proofs.laws.changing_commands_put_one_over.Goals as goal

pub returns : goal.returns
returns c end counter = law.changing_commands_put_one_over _ _
