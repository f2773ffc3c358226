use Rattle.std.proofs.Common.{◌-◌, ◌≤◌}
use Rattle.run_explanations.specs.Explanations.{era_begin}
use Rattle.run_explanations.specs.Playing.{IsFound, HasPlayed}
use Rattle.run_explanations.proofs.explaining.first_found.Given as goal

-- what was found before the runner's configuration, which is of the last era
abbrev pub invariant-loop-runner : goal.invariant-loop-runner
invariant-loop-runner l = record {
  found : IsFound l.top.numbers (era_begin l.fn.runner.script) l.fn.runner.plan l.fn.runner.script
      l.runner.at l.search;
  played : HasPlayed l.fn.runner l.runner.at l.runner;
  begun : era_begin l.fn.runner.script ≤ l.runner.at;
  within : l.runner.at ≤ l.fn.runner.script.rounds;
}

abbrev pub decreases-loop-runner : goal.decreases-loop-runner
decreases-loop-runner l = l.fn.runner.script.rounds - l.runner.at
