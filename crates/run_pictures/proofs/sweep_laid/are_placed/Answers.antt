use Rattle.std.proofs.Common.{None}
use Rattle.run_pictures.specs.Sweeps.{IsPlaced}
use Rattle.run_pictures.proofs.Chains.{chained_more}
use Rattle.run_pictures.proofs.sweep_laid.are_placed.Goals as goal

pub loop-k-preserved : goal.loop-k-preserved
loop-k-preserved c =
    let more = chained_more (IsPlaced c.args.sweep.now) None c.args.tallies.now c.loop-k.k _
    c.loop-k-test.true c.loop-k.last c.loop-k.invariant.last c.loop-k.invariant.placed
    (c.is_placed.ensures c.if-not-is_placed.false) in
    record {
      last = more.0;
      placed = more.1;
    }
