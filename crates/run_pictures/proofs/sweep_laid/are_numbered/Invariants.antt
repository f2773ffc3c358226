use Rattle.std.proofs.Common.{◌≡◌, ◌*◌, take, All}
use Rattle.run_pictures.proofs.sweep_laid.are_numbered.Given as goal

abbrev pub invariant-loop-k : goal.invariant-loop-k
invariant-loop-k l = All (λ tick. tick.number ≡ tick.column * l.span) (take l.k l.ticks)
