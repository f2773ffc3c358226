use Rattle.std.proofs.Common.{◌≡◌}
use Rattle.plan_numbers.specs.Numbers.{line}
use Rattle.construction.specs.Plans.{span_of}
use Rattle.plan_numbers.proofs.Accepted.{meets_none, level_sized}
use Rattle.plan_numbers.proofs.levels.level_nums.Goals as goal

pub returns-clause-sized : goal.returns-clause-sized
returns-clause-sized c =
    let below = c.args.below.now in
    let level = line c.args.k c.args.f c.args.c c.args.s in
    let met = c.in_ok-span.ensures.met in
    let answer = rw (meets_none below level met) at c.in_ok-span.ensures.answer in
    let span : c.in_ok-span.span ≡ span_of level = cc in
    rw (c.div_ceil.ensures, c.beat.ensures, c.register_bits.ensures.value, span)
    (level_sized below level c.requires met)
