use Rattle.std.proofs.Common.{◌≡◌, map, take}
use Rattle.sync_types.specs.States.{register_at}
use Rattle.trace.proofs.places.Place.tally.Given as goal

abbrev pub invariant-loop-place : goal.invariant-loop-place
invariant-loop-place l = record {
  values : l.values.values
      ≡ map (λ s. (register_at l.self-inside.below s).a) (take l.place l.self-inside.group.now);
  capacity : l.values.capacity ≡ l.fn.values.capacity;
}
