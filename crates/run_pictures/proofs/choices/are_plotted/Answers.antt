use Rattle.std.proofs.Common.{None}
use Rattle.run_pictures.specs.Choices.{IsPlotted}
use Rattle.run_pictures.proofs.Chains.{chained_more}
use Rattle.run_pictures.proofs.choices.are_plotted.Goals as goal

pub loop-k-preserved : goal.loop-k-preserved
loop-k-preserved c =
    let more = chained_more IsPlotted None c.args.points.now c.loop-k.k _
    c.loop-k-test.true c.loop-k.last c.loop-k.invariant.last c.loop-k.invariant.plotted
    (c.is_plotted.ensures c.if-not-is_plotted.false) in
    record {
      last = more.0;
      plotted = more.1;
    }
