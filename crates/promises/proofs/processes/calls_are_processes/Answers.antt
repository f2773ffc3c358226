use Rattle.promises.proofs.PlanCalls as law
use Rattle.promises.proofs.processes.calls_are_processes.Goals as goal

pub returns : goal.returns
returns c = law.calls_are_processes
