use Rattle.std.proofs.Common.{◌≡◌, ◌-◌, ◌≤◌, []}
use Rattle.shared_board.specs.Senders.{values_of}
use Rattle.shared_board.proofs.stretches.NodeRange.first_value.Given as goal

-- no node so far is correct
abbrev pub invariant-loop-u : goal.invariant-loop-u
invariant-loop-u l =
    (values_of l.self.senders.now l.self.first (l.u - l.self.first) ≡ [])
    × (l.self.first ≤ l.u)
