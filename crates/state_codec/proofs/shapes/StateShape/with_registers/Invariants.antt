use Rattle.std.proofs.Common.{◌≡◌, ◌++◌, replicate}
use Rattle.state_codec.proofs.shapes.StateShape.with_registers.Given as goal

abbrev pub invariant-loop : goal.invariant-loop
invariant-loop l = l.items.items ≡ l.initial.items.items ++ replicate l.counter l.values
