use Rattle.std.proofs.Common.{◌≡◌, map, take, Some}
use Rattle.counting.specs.Values.{count_of}
use Rattle.construction.specs.Shown.{shown}
use Rattle.shared_board.proofs.laying.Lies.count_number.Given as goal

-- the lies so far
abbrev pub invariant-loop-lie : goal.invariant-loop-lie
invariant-loop-lie g l =
    l.count ≡ count_of (map (λ s. Some (g.R.Reading.reads l.reading (shown l.self.height s)))
    (take l.lie-index l.self.lies.now)) (Some l.number)
