use Rattle.std.proofs.Common.{arith}
use Rattle.attack.proofs.Ranges.{left_over_none, left_over_more}
use Rattle.attack.proofs.faulty_ids.take_away.Goals as goal

pub loop-i-init : goal.loop-i-init
loop-i-init c = left_over_none c.args.lot.seed c.args.ids.now.items

pub loop-i-preserved : goal.loop-i-preserved
loop-i-preserved c =
    grind (arith, left_over_more c.args.lot.seed c.args.ids.now.items c.loop-i.i)
