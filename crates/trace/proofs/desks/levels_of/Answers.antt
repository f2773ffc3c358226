use Rattle.std.proofs.Common.{◌++◌, [], ◌∷◌, ap, sym, ◌∙◌, arith}
use Rattle.std.proofs.lemmas.List.{take_all}
use Rattle.plan_numbers.specs.Numbers.{level_numbers}
use Rattle.plan_numbers.proofs.LevelLaws.{length-numbers_of}
use Rattle.tower.proofs.Building.{take_next}
use Rattle.trace.proofs.desks.levels_of.Goals as goal

pub loop-i-preserved : goal.loop-i-preserved
loop-i-preserved c =
    let x = c.level.result.now in
    let pushed = rw c.unwrap.ensures at c.push.ensures.items in
    let next = take_next (level_numbers c.args.plan.now) c.loop-i.i x c.level.ensures.value in
    record {
      numbers = pushed ∙ (ap (λ items. items ++ x ∷ []) c.loop-i.invariant.numbers ∙ sym next);
      room = omega (arith, c.loop-i.invariant.room, c.push.ensures.capacity);
    }

pub returns : goal.returns
returns c =
    let plan = c.args.plan.now in
    c.loop-i.invariant.numbers ∙ take_all c.loop-i.i (level_numbers plan)
    (omega (
      arith,
      c.loop-i-test.false,
      c.depth-i-end.ensures.value,
      length-numbers_of plan.base plan.levels,
    ))
