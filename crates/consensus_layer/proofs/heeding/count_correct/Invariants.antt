use Rattle.std.proofs.Common.{◌≡◌, ◌≤◌}
use Rattle.counting.specs.Places.{places}
use Rattle.consensus_layer.specs.Heeding.{has_truly}
use Rattle.consensus_layer.proofs.heeding.count_correct.Given as goal

abbrev pub invariant-loop-place : goal.invariant-loop-place
invariant-loop-place l = record {
  counted : l.count ≡ places (has_truly l.faulty.ids l.values l.value) l.place;
  few : l.count ≤ l.place;
}
