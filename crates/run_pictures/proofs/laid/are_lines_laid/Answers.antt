use Rattle.picture_parts.proofs.Laying.{one_more}
use Rattle.run_pictures.proofs.laid.are_lines_laid.Goals as goal

pub loop-k-preserved : goal.loop-k-preserved
loop-k-preserved c =
    one_more (λ end. end.place) c.args.ends.now c.loop-k.k _ c.loop-k-test.true c.loop-k.invariant
    c.if-ends-k.false
