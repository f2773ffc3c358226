use Rattle.rounds.proofs.LiesLaid.{LiesLaid}
use Rattle.rounds.proofs.laying.lay_lies.Given as goal

abbrev pub invariant-loop-j : goal.invariant-loop-j
invariant-loop-j l = LiesLaid l.depth l.faulty.ids l.fn.stretch.0 l.fn.stretch.1 l.lies
    l.fn.heard l.j l.heard
