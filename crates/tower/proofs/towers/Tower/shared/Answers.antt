use Rattle.std.proofs.Common.{arith}
use Rattle.plan_numbers.proofs.Stacking.{length-levels_in}
use Rattle.plan_laws.proofs.PlanCounter.{plan_sizes}
use Rattle.tower.proofs.towers.Tower.shared.Goals as goal

pub new-requires-clause-deep : goal.new-requires-clause-deep
new-requires-clause-deep c =
    let sizes = plan_sizes _ c.self.invariant.accepted in
    omega (
      arith,
      sizes.shallow,
      sizes.most,
      length-levels_in c.self.inside.levels.items,
      c.len.ensures,
      c.self.inside.levels.ok.0,
    )
