use Rattle.std.proofs.Common.{◌∙◌}
use Rattle.edge_io.proofs.OneByOne.{one_more}
use Rattle.edge_io.proofs.feed_bytes.skip_bytes.Goals as goal

pub loop-preserved : goal.loop-preserved
loop-preserved g c = record {
  same = c.in-Ok-Some.ensures.same_reference ∙ c.loop.invariant.same;
  still = c.in-Ok-Some.ensures.cause ∙ c.loop.invariant.still;
  met = rw c.in-Ok-Some.field-0-is at c.in-Ok-Some.ensures.met ∙ c.loop.invariant.met;
  lines = c.in-Ok-Some.ensures.still ∙ c.loop.invariant.lines;
  so_far = one_more _ _ _ _ _ c.loop.invariant.so_far
      (rw c.in-Ok-Some.field-0-is at c.in-Ok-Some.ensures.bytes);
}
