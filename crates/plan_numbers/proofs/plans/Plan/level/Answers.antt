use Rattle.std.proofs.Common.{sym, subst, length, ◌<◌}
use Rattle.std.specs.Prelude.{All}
use Rattle.std.proofs.lemmas.List.{length-map, length-reverse}
use Rattle.plan_numbers.specs.Sizes.{IsSizedLevel}
use Rattle.plan_numbers.proofs.Accepted.{numbers_sized}
use Rattle.plan_numbers.proofs.plans.Plan.level.Goals as goal

pub returns-clause-sized : goal.returns-clause-sized
returns-clause-sized c =
    let all =
    subst (λ items. All IsSizedLevel items) (sym c.self.invariant.numbers)
    (numbers_sized _ _ c.self.invariant.accepted.levels) in
    let seen = rw (← c.self.view_is) at c.requires in
    let below : c.args.i < length c.self.inside.levels.items =
    simp (length-map, length-reverse) at seen in
    subst IsSizedLevel (sym c.index.ensures) (all c.args.i c.index.result.now below)
