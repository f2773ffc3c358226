use Rattle.machine_runner.proofs.Firsts as law
use Rattle.machine_runner.proofs.laws.each_is_of_one_era.Goals as goal

pub returns : goal.returns
returns c = law.of_one_era
