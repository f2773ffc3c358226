use Rattle.std.proofs.Common.{arith}
use Rattle.texts.proofs.Ranges.{range_more}
use Rattle.attack.proofs.faulty_ids.all_ids.Goals as goal

pub loop-id-preserved : goal.loop-id-preserved
loop-id-preserved c = grind (arith, range_more 0 c.loop-id.id c.loop-id.id (omega arith))
