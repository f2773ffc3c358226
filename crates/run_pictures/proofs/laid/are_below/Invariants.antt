use Rattle.std.proofs.Common.{take, All}
use Rattle.picture_parts.specs.Moduli.{IsBelow}
use Rattle.run_pictures.proofs.laid.are_below.Given as goal

abbrev pub invariant-loop-k : goal.invariant-loop-k
invariant-loop-k l = All (λ cell. IsBelow l.modulus cell.shown) (take l.k l.cells)
