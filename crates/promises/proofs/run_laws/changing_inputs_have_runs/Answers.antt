use Rattle.promises.proofs.run_laws.changing_inputs_have_runs.Goals as goal
use Rattle.promises.proofs.ChangingRuns as law

pub returns : goal.returns
returns c = law.changing_inputs_have_runs
