use Rattle.std.proofs.Common.{◌≡◌, length, All}
use Rattle.run_checker.specs.Sets.{no_ids}
use Rattle.run_checker.proofs.id_lists.empty_sets.Given as goal

abbrev pub invariant-loop : goal.invariant-loop
invariant-loop l = record {
  count : length l.sets.items ≡ l.counter;
  empty : All (λ set. set ≡ no_ids l.nodes) l.sets.items;
}
