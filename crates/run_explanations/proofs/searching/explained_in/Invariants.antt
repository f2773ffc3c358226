use Rattle.std.proofs.Common.{◌≡◌}
use Rattle.construction.specs.Runs.{is_in}
use Rattle.run_explanations.specs.Searching.{first_below, begins_phase}
use Rattle.run_explanations.proofs.searching.explained_in.Given as goal

-- the first so far
abbrev pub invariant-loop-x : goal.invariant-loop-x
invariant-loop-x l = l.phase
    ≡ first_below (begins_phase l.top.numbers.beat (is_in l.faulty.ids) l.last l.window.at
    l.window.part) l.x
