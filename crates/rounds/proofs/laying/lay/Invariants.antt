use Rattle.rounds.proofs.LaidBelow.{LaidBelow}
use Rattle.rounds.proofs.laying.lay.Given as goal

abbrev pub invariant-loop-v : goal.invariant-loop-v
invariant-loop-v l = LaidBelow l.states.current l.states.shape.depth l.v l.heard
