use Rattle.std.proofs.Common.{◌≡◌, arith}
use Rattle.adversary_script.proofs.links.link.Goals as goal

pub returns : goal.returns
returns c = let none : c.loop-i.i ≡ 0 = omega arith in rw none at c.loop-i.invariant.linked
