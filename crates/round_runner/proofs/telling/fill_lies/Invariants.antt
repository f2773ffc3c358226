use Rattle.round_runner.proofs.ToldBelow.{ToldBelow}
use Rattle.round_runner.proofs.telling.fill_lies.Given as goal

abbrev pub invariant-loop-j : goal.invariant-loop-j
invariant-loop-j g l = ToldBelow l.hearer (g.L.Lies.says l.lies) l.fn.stretch.0 l.fn.noise l.j
    l.told l.noise
