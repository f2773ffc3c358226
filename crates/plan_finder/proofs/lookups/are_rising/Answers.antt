use Rattle.std.proofs.Common.{refl}
use Rattle.plan_finder.proofs.Rising.{rising_short}
use Rattle.plan_finder.proofs.lookups.are_rising.Goals as goal

pub returns : goal.returns
returns c = (
  λ _. c.loop-rest.invariant.ahead (rising_short c.loop-rest.rest.now c.in_default.len_below),
  λ _. refl,
)
