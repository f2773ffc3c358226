use Rattle.layer_laws.proofs.LowestCorrect.{AreFaulty}
use Rattle.layer_laws.proofs.lowest.lowest_correct.Given as goal

abbrev pub invariant-loop-v : goal.invariant-loop-v
invariant-loop-v l = AreFaulty l.faulty.ids l.v
