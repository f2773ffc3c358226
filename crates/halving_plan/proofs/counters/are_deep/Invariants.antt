use Rattle.std.proofs.Common.{ℕ, ◌<◌, ◌≤◌, length, get_or}
use Rattle.sync_types.specs.States.{State}
use Rattle.halving_plan.proofs.counters.are_deep.Given as goal

abbrev pub invariant-loop-node : goal.invariant-loop-node
invariant-loop-node l = (k : ℕ) (d : State) → k < l.node
    → l.depth ≤ length (get_or l.heard k d).registers
