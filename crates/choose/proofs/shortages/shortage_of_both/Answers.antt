use Rattle.std.proofs.Common.{arith}
use Rattle.choose.proofs.Short.{both_can, both_short}
use Rattle.choose.proofs.shortages.shortage_of_both.Goals as goal

pub returns-then-want : goal.returns-then-want
returns-then-want c = both_can c.args.want.now c.requires (omega arith)

pub returns : goal.returns
returns c = both_short c.args.want.now c.requires (omega arith)
