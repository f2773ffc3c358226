use Rattle.machine_runner.proofs.line_laws.at_most_one_in_a_line.Goals as goal
use Rattle.machine_runner.proofs.HoldLaws as law

pub returns : goal.returns
returns c = law.at_most_one_in_a_line
