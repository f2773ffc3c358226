use Rattle.std.proofs.Common.{◌≤◌, length, subst, arith}
use Rattle.trace.specs.Places.{Placed}
use Rattle.trace.proofs.places.Place.put_counts.Goals as goal

pub tally-requires : goal.tally-requires
tally-requires g c =
    let place = c.self.invariant in
    let capacity = c.args.room.now.work.values.capacity in
    let few : length c.self.inside.group.now ≤ capacity =
    omega (
      arith,
      place.size,
      place.within,
      c.self.inside.view.now.few,
      c.args.room.now.room.values,
    ) in
    subst (λ (p : Placed). length p.group ≤ capacity) c.self.view_is few
