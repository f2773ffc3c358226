use Rattle.std.proofs.Common.{◌≡◌, ◌+◌}
use Rattle.run_explanations.specs.Explanations.{seen_at}
use Rattle.run_explanations.specs.Playing.{HasPlayed}
use Rattle.run_explanations.specs.Searching.{stretch_before}
use Rattle.run_explanations.proofs.explaining.look_over.Given as goal

-- the stretch before the runner's configuration
abbrev pub invariant-loop : goal.invariant-loop
invariant-loop l = record {
  stretch : l.stretch ≡ stretch_before l.top.numbers.beat l.window
      (seen_at l.fn.runner.plan l.fn.runner.script) (l.window + l.counter);
  played : HasPlayed l.fn.runner (l.window + l.counter) l.runner;
}
