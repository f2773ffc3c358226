use Rattle.std.proofs.Common.{◌≡◌, replicate}
use Rattle.sync_types.specs.States.{zero_state}
use Rattle.sync_types.proofs.states.NodeState.zeros.Given as goal

abbrev pub invariant-loop : goal.invariant-loop
invariant-loop l = l.states.items ≡ replicate l.counter (zero_state l.depth)
