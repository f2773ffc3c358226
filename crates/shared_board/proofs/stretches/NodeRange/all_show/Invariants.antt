use Rattle.std.proofs.Common.{◌≡◌, ℕ, ◌-◌, ◌<◌, ◌≤◌, false, length}
use Rattle.shared_board.specs.Senders.{is_liar, output_of, correct_in}
use Rattle.shared_board.proofs.stretches.NodeRange.all_show.Given as goal

-- those so far do, each of which was compared
abbrev pub invariant-loop-u : goal.invariant-loop-u
invariant-loop-u g l =
    ((u : ℕ) → l.self.first ≤ u → u < l.u → is_liar l.self.senders.now u ≡ false
    → output_of l.self.senders.now u ≡ l.output)
    × (l.compared ≡ length
    (correct_in l.self.senders.now l.self.first (l.u - l.self.first)))
    × (l.self.first ≤ l.u)
