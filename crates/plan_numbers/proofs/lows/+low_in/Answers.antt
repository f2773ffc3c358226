use Rattle.std.proofs.Common.{arith}
use Rattle.plan_numbers.proofs.Stacking.{below_are, top_is, low_of_block, low_of_spare}
use Rattle.plan_numbers.proofs.lows.+low_in.Goals as goal

pub block_nodes-n-requires : goal.block_nodes-n-requires
block_nodes-n-requires t c = (top_is _ _ _ c.in-Some.ensures.cases.0 c.requires).sized

pub low_in-requires : goal.low_in-requires
low_in-requires t c = (
  omega (arith, c.decreases, c.in-Some.ensures.cases.1),
  below_are _ _ _ c.in-Some.ensures.cases.0 c.requires,
)

pub returns-then-place-top : goal.returns-then-place-top
returns-then-place-top t c =
    low_of_block _ _ _ c.in-Some.ensures.cases.0 c.requires _ _ _ c.block_nodes-n.ensures
    c.if-place-top.true c.low_in.ensures

pub returns-else-place-top : goal.returns-else-place-top
returns-else-place-top t c =
    low_of_spare _ _ _ c.in-Some.ensures.cases.0 c.requires _ _ c.block_nodes-n.ensures
    c.if-place-top.false
