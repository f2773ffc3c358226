use Rattle.std.proofs.Common.{vec_capacity, ap, arith}
use Rattle.sync_types.specs.FaultSets.{FaultIds}
use Rattle.sync_types.proofs.RisingIds.{room_for, kept_push}
use Rattle.sync_types.proofs.faults.FaultSet.push.Goals as goal

pub unwrap-requires : goal.unwrap-requires
unwrap-requires c =
    let nodes = ap (λ (s : FaultIds). s.nodes) c.self.view_is in
    let above = rw (← c.self.view_is) at c.requires.above in
    let enough = room_for c.self.inside.ids.items c.args.id c.self.invariant.rising above in
    c.push.ensures.succeeds (omega arith)

pub invariant_of-self : goal.invariant_of-self
invariant_of-self c =
    let inside = c.self.inside in
    let nodes = ap (λ (s : FaultIds). s.nodes) c.self.view_is in
    let above = rw (← c.self.view_is) at c.requires.above in
    let enough = room_for inside.ids.items c.args.id c.self.invariant.rising above in
    rw (c.push.ensures.items, c.push.ensures.succeeds (omega arith))
    (kept_push inside.nodes inside.ids.items inside.marks.items (vec_capacity inside.ids)
    (vec_capacity c.push.new.self) c.args.id c.push.ensures.capacity c.self.invariant
    (omega arith) above)
