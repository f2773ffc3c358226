use Rattle.std.proofs.Common.{◌≡◌, ◌+◌, ◌++◌, map, take}
use Rattle.sync_types.specs.States.{register_at}
use Rattle.shared_board.proofs.laying.Lies.count_and_least.Given as goal

-- those of the lies so far stand after what was there
abbrev pub invariant-loop-lie : goal.invariant-loop-lie
invariant-loop-lie g l =
    (l.poll ≡ record l.initial.poll {
      values =
          l.initial.poll.values ++ map (λ s. (register_at l.self.height s).a)
          (take l.lie-index l.self.lies.now);
    })
    × (l.steps ≡ l.initial.steps + l.lie-index)
