use Rattle.machine_runner.proofs.Firsts as laws
use Rattle.round_runner.proofs.laws.each_is_of_one_era.Goals as goal

pub returns : goal.returns
returns c = laws.of_one_era
