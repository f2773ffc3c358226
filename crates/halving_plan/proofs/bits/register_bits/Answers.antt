use Rattle.std.proofs.Common.{arith}
use Rattle.halving_plan.proofs.bits.register_bits.Goals as goal

pub overflow_add-result : goal.overflow_add-result
overflow_add-result c =
    let few = c.width.ensures.least 41 (omega (arith, c.requires)) in omega (arith, few)

pub returns-clause-most : goal.returns-clause-most
returns-clause-most c =
    let few = c.width.ensures.least 41 (omega (arith, c.requires)) in omega (arith, few)
