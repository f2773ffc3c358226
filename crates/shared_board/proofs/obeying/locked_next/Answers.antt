use Rattle.std.proofs.Common.{◌+◌, ◌<◌, ap, sym, arith}
use Rattle.std.proofs.Math.Nat.{mod-eq_of_lt}
use Rattle.construction.specs.PhaseKing.{locked_at}
use Rattle.shared_board.proofs.obeying.locked_next.Goals as goal

-- the next value is below the modulus
pub returns-else-value-modulus : goal.returns-else-value-modulus
returns-else-value-modulus c =
    let below : c.args.value + 1 < c.args.modulus =
    omega (arith, c.requires, c.if-value-modulus.false) in
    ap locked_at (sym (mod-eq_of_lt below))
