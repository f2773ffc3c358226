use Rattle.std.proofs.Common.{◌++◌, [], ◌∷◌, ap, sym, ◌∙◌, subst, arith}
use Rattle.construction.specs.Plans.{Plan}
use Rattle.construction.specs.Runs.{Settles}
use Rattle.plan_numbers.specs.Numbers.{level_numbers}
use Rattle.plan_laws.proofs.RunLaws.{every_plan_settles}
use Rattle.tower.proofs.Building.{take_next, same_plan, kept}
use Rattle.tower.proofs.towers.build.Goals as goal

pub loop-i-preserved : goal.loop-i-preserved
loop-i-preserved c =
    let x = c.level.result.now in
    let pushed = rw c.unwrap.ensures at c.push.ensures.items in
    let next = take_next (level_numbers c.args.plan.now) c.loop-i.i x c.level.ensures.value in
    record {
      numbers = pushed ∙ (ap (λ items. items ++ x ∷ []) c.loop-i.invariant.numbers ∙ sym next);
      room = omega (arith, c.loop-i.invariant.room, c.push.ensures.capacity);
    }

pub invariant_of-result : goal.invariant_of-result
invariant_of-result c =
    kept c.args.plan.now _ _ _ _ c.version.ensures c.base_modulus.ensures
    (omega (arith, c.loop-i-test.false, c.depth-i-end.ensures.value))
    c.loop-i.invariant.numbers _ c.facts.ensures.accepted (cc)

pub returns-clause-plan : goal.returns-clause-plan
returns-clause-plan c =
    same_plan c.args.plan.now _ _ _ _ c.version.ensures c.base_modulus.ensures
    (omega (arith, c.loop-i-test.false, c.depth-i-end.ensures.value))
    c.loop-i.invariant.numbers

pub returns-clause-settles : goal.returns-clause-settles
returns-clause-settles c =
    subst (λ (p : Plan). Settles p) (sym (returns-clause-plan c))
    (every_plan_settles c.args.plan.now c.facts.ensures.accepted)
