use Rattle.read_texts.proofs.TakenLogs.{taken_logs}
use Rattle.read_texts.proofs.laws.read_logs_have_texts.Goals as goal

pub returns : goal.returns
returns c = taken_logs
