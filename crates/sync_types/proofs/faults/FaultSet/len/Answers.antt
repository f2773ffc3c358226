use Rattle.std.proofs.Common.{ap, arith}
use Rattle.sync_types.specs.FaultSets.{FaultIds}
use Rattle.sync_types.proofs.RisingIds.{count_below}
use Rattle.sync_types.proofs.faults.FaultSet.len.Goals as goal

pub returns-clause-within : goal.returns-clause-within
returns-clause-within c =
    let nodes = ap (λ (s : FaultIds). s.nodes) c.self.view_is in
    let few = count_below c.self.inside.nodes c.self.inside.ids.items c.self.invariant.rising
    c.self.invariant.below in
    omega arith
