use Rattle.std.proofs.Common.{◌≡◌}
use Rattle.attack.specs.Lean.{leaner}
use Rattle.attack.proofs.targets.Target.lean.Given as goal

abbrev pub invariant-loop-i : goal.invariant-loop-i
invariant-loop-i g l =
    l.last
    ≡ leaner (g.M.Machine.machine l.self.machine) l.self.shape l.self.first_line l.count l.fn.best
    l.i
