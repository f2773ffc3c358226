use Rattle.std.proofs.Common.{◌≡◌, ◌+◌, ◌-◌, ◌≤◌, length}
use Rattle.shared_board.specs.Senders.{correct_in, numbers_of}
use Rattle.shared_board.proofs.stretches.NodeRange.gather_numbers.Given as goal

-- what the correct nodes so far have
abbrev pub invariant-loop-u : goal.invariant-loop-u
invariant-loop-u g l =
    (l.poll.values ≡ numbers_of l.self.senders.now (g.R.Reading.reads l.reading) l.self.first
    (l.u - l.self.first))
    × (l.poll.capacity ≡ l.initial.poll.capacity)
    × (l.steps ≡ l.initial.steps + length
    (correct_in l.self.senders.now l.self.first (l.u - l.self.first)))
    × (l.self.first ≤ l.u)
