use Rattle.std.proofs.Common.{◌≡◌}
use Rattle.sweep.proofs.Tallied.{all_begun}
use Rattle.sweep.proofs.tallying.no_runs.Given as goal

abbrev pub invariant-loop-j : goal.invariant-loop-j
invariant-loop-j l = l.tally.items ≡ all_begun l.script l.j
