use Rattle.std.proofs.Common.{◌≡◌, ◌≤◌, ◌++◌, map, vec_capacity}
use Rattle.round_runner.specs.Locks.{correct_nodes}
use Rattle.run_checker.proofs.tellings.add_pairs.Given as goal

abbrev pub invariant-loop-v : goal.invariant-loop-v
invariant-loop-v l = record {
  pairs : l.pairs.items
      ≡ l.fn.pairs.items ++ map (λ v. (l.sender, v)) (correct_nodes l.v l.faulty.ids);
  room : vec_capacity l.fn.pairs ≤ vec_capacity l.pairs;
}
