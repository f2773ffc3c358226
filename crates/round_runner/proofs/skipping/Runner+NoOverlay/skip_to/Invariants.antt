use Rattle.std.proofs.Common.{◌-◌, ◌≤◌, List, []}
use Rattle.counter_core.specs.NoLayers.{no_layer}
use Rattle.round_runner.specs.Runners.{IsPlaying}
use Rattle.round_runner.specs.Skipping.{IsSkipped}
use Rattle.round_runner.proofs.skipping.Runner+NoOverlay.skip_to.Given as goal

abbrev pub invariant-loop-self : goal.invariant-loop-self
invariant-loop-self l = record {
  skipped : IsSkipped l.fn.self l.self.at l.self;
  within : l.self.at ≤ l.end;
  played : (began : List (Unit {0})) → IsPlaying (λ o. no_layer) (λ o. []) began l.fn.self
      → IsPlaying (λ o. no_layer) (λ o. []) began l.self;
}

abbrev pub decreases-loop-self : goal.decreases-loop-self
decreases-loop-self l = l.end - l.self.at
