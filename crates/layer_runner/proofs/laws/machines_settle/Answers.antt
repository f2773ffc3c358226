use Rattle.layer_runner.proofs.laws.machines_settle.Goals as goal
use Rattle.layer_runner.proofs.MachinesSettle as law

pub returns : goal.returns
returns c = law.machines_settle
