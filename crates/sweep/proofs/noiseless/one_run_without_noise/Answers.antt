use Rattle.sweep.proofs.SameRun.{same_run, same_machine_run}
use Rattle.sweep.proofs.noiseless.one_run_without_noise.Goals as goal

pub returns-clause-plans : goal.returns-clause-plans
returns-clause-plans c = λ plan script seed t silent. same_run script seed silent plan t

pub returns-clause-machines : goal.returns-clause-machines
returns-clause-machines c =
    λ machine script seed t silent. same_machine_run script seed silent machine t
