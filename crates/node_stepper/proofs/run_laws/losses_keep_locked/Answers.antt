use Rattle.node_stepper.proofs.Losses as law
use Rattle.node_stepper.proofs.run_laws.losses_keep_locked.Goals as goal

pub returns : goal.returns
returns c = law.losses_keep_locked
