use Rattle.std.proofs.Common.{◌≡◌, ◌≤◌, map, replicate, vec_capacity}
use Rattle.shared_board.proofs.columns.zero_outputs.Given as goal

abbrev pub invariant-loop : goal.invariant-loop
invariant-loop l = record {
  made : map (λ c. c.items) l.outputs.items ≡ replicate l.counter (replicate l.nodes 0);
  room : l.columns ≤ vec_capacity l.outputs;
}
