use Rattle.std.proofs.Common.{◌≡◌, ◌+◌, map, take}
use Rattle.counting.specs.Values.{count_of}
use Rattle.sync_types.specs.States.{register_at}
use Rattle.shared_board.proofs.laying.Lies.count.Given as goal

-- the places so far, a step for each lie
abbrev pub invariant-loop-lie : goal.invariant-loop-lie
invariant-loop-lie g l =
    (l.count ≡ count_of l.poll.values l.value + count_of
    (map (λ s. (register_at l.self.height s).a) (take l.lie-index l.self.lies.now)) l.value)
    × (l.steps ≡ l.initial.steps + l.lie-index)
