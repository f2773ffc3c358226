use Rattle.std.proofs.Common.{◌/◌, ◌%◌, ◌<◌, arith}
use Rattle.std.proofs.Math.Nat.{mod-lt}
use Rattle.replicated_log.proofs.replica.owner_at.Goals as goal

pub overflow_cast-result : goal.overflow_cast-result
overflow_cast-result c =
    let some = c.requires in
    let nodes = c.from.ensures in
    let below : c.args.output / c.entry_length.result % c.from.result < c.from.result =
    mod-lt (c.args.output / c.entry_length.result) (omega (arith, some, nodes)) in
    omega (arith, below, nodes)
