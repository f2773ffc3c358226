use Rattle.replicated_log.proofs.laws.log_fits_over.Goals as goal
use Rattle.replicated_log.proofs.FitLogs as law

pub returns : goal.returns
returns c = law.log_fits_over
