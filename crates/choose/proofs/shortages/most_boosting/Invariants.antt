use Rattle.choose.specs.declared.requests.Scope.TheVariants as scope
use Rattle.choose.specs.Shortages.{CanTolerate}
use Rattle.choose.proofs.shortages.most_boosting.Given as goal

abbrev pub invariant-loop-f : goal.invariant-loop-f
invariant-loop-f l = CanTolerate scope.Boosting l.n l.f
