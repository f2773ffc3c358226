use Rattle.round_runner.proofs.LiesLaid.{LiesLaid}
use Rattle.round_runner.proofs.stepping.lay_lies.Given as goal

abbrev pub invariant-loop-j : goal.invariant-loop-j
invariant-loop-j l = LiesLaid l.round.script.now.shape.depth l.round.faulty.now.ids
    l.fn.stretch.0
    l.fn.stretch.1 l.lies l.fn.heard l.j l.heard
