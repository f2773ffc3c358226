use Rattle.machine_runner.proofs.Counted.{AreFaulty}
use Rattle.machine_runner.proofs.leading.lead_output.Given as goal

abbrev pub invariant-loop-v : goal.invariant-loop-v
invariant-loop-v g l = AreFaulty l.runner.script l.runner.at l.v
