use Rattle.choose.specs.declared.requests.Scope.TheVariants as scope
use Rattle.choose.specs.Shortages.{CanTolerate}
use Rattle.choose.proofs.shortages.fewest_boosting.Given as goal

abbrev pub invariant-loop-n : goal.invariant-loop-n
invariant-loop-n l = ¬ CanTolerate scope.Boosting l.n l.f
