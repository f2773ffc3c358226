use Rattle.std.proofs.Common.{arith}
use Rattle.counter_core.proofs.Heeded.{place_of}
use Rattle.round_runner.proofs.telling.place_of.Goals as goal

-- past the last place none of them is v
pub unreachable-requires : goal.unreachable-requires
unreachable-requires c =
    let p = place_of c.args.faulty.now.ids c.args.v c.requires in
    c.loop-i.invariant p.0
    (let lt = p.1 in omega (arith, lt, c.loop-i-test.false, c.len-i-end.ensures)) p.2
