use Rattle.std.proofs.Common.{◌≡◌, ℕ, ◌<◌, ◌≤◌, false}
use Rattle.construction.specs.PhaseKing.{locked_at}
use Rattle.shared_board.specs.Senders.{is_liar, register_of}
use Rattle.shared_board.proofs.stretches.NodeRange.correct_locked.Given as goal

-- those so far are
abbrev pub invariant-loop-u : goal.invariant-loop-u
invariant-loop-u l = (u : ℕ) → l.self.first ≤ u → u < l.u → is_liar l.self.senders.now u ≡ false
    → register_of l.self.senders.now u ≡ locked_at l.value
