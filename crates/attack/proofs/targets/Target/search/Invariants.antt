use Rattle.std.proofs.Common.{◌≡◌}
use Rattle.attack.specs.Searches.{searched}
use Rattle.attack.proofs.targets.Target.search.Given as goal

abbrev pub invariant-loop-index : goal.invariant-loop-index
invariant-loop-index g l =
    l.best
    ≡ searched (g.M.Machine.machine l.self.machine) l.self.shape l.self.first_line
    (g.K.Maker.made l.maker) l.index
