use Rattle.std.proofs.Common.{◌≡◌, ◌+◌, ◌*◌, ◌≤◌}
use Rattle.construction.specs.Runs.{is_in}
use Rattle.counting.specs.Places.{places}
use Rattle.run_explanations.proofs.seeing.TopLevelView.is_sound.Given as goal

-- the faulty ones so far
abbrev pub invariant-loop-j : goal.invariant-loop-j
invariant-loop-j l =
    (l.count ≡ places (λ j. is_in l.self.faulty.now.ids (l.i * l.self.top.numbers.nodes + j)) l.j)
    × (l.count ≤ l.j)
