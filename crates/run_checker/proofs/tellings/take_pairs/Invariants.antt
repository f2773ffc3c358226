use Rattle.std.proofs.Common.{◌≡◌, ◌≤◌, take, vec_capacity}
use Rattle.std.specs.List.{flat_map}
use Rattle.round_runner.specs.Locks.{correct_nodes}
use Rattle.run_checker.proofs.ToldPlaces.{row_of}
use Rattle.run_checker.proofs.tellings.take_pairs.Given as goal

abbrev pub invariant-loop-i : goal.invariant-loop-i
invariant-loop-i l = record {
  pairs : l.pairs.items
      ≡ flat_map (row_of (correct_nodes l.faulty.nodes l.faulty.ids)) (take l.i l.faulty.ids);
  room : vec_capacity l.fn.pairs ≤ vec_capacity l.pairs;
}
