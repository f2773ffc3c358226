use Rattle.std.proofs.Common.{◌≡◌, ◌≤◌, map, replicate, vec_capacity}
use Rattle.sync_types.specs.States.{zero_register}
use Rattle.shared_board.proofs.columns.zero_registers.Given as goal

abbrev pub invariant-loop : goal.invariant-loop
invariant-loop l = record {
  made : map (λ c. c.items) l.registers.items
      ≡ replicate l.counter (replicate l.nodes zero_register);
  room : l.columns ≤ vec_capacity l.registers;
}
