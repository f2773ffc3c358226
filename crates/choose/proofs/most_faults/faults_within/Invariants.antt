use Rattle.choose.specs.MostFaults.{AreMost}
use Rattle.choose.proofs.most_faults.faults_within.Given as goal

abbrev pub invariant-loop-f : goal.invariant-loop-f
invariant-loop-f l = AreMost l.n l.t l.f l.most
