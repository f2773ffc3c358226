use Rattle.std.proofs.Common.{arith}
use Rattle.plan_numbers.proofs.Spans.{turns_most, span_most}
use Rattle.plan_finder.proofs.costs.step_cost.Goals as goal

pub pow-requires : goal.pow-requires
pow-requires c =
    let most = turns_most c.args.k c.requires.blocks.1 in
    rw (c.from-turns.ensures, c.div_ceil.ensures) (omega (arith, most))

pub overflow_mul-cost : goal.overflow_mul-cost
overflow_mul-cost c =
    let most = span_most c.args.k c.args.g c.requires.blocks.1 c.requires.faults in
    rw (c.pow.ensures, c.from.ensures, c.from-turns.ensures, c.div_ceil.ensures)
    (omega (arith, most))
