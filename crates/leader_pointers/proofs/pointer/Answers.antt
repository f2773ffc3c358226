use Rattle.std.proofs.Common.{◌≤◌, ◌*◌, ◌^◌, arith}
use Rattle.std.proofs.Math.Nat.{mul-pos, one-le-pow}
use Rattle.leader_pointers.proofs.pointer.Goals as goal

pub nonzero_div-result : goal.nonzero_div-result
nonzero_div-result c =
    let power : 1
    ≤ (2 * c.from.result) ^ c.args.i = one-le-pow c.args.i (2 * c.from.result) (omega arith) in
    let interval : 1 ≤ c.args.beat * c.pow.result = mul-pos c.requires.beat (omega arith) in
    omega arith
