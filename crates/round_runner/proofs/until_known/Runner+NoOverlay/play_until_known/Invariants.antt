use Rattle.std.proofs.Common.{◌≡◌, ◌⊎◌, ◌-◌, ◌≤◌, List, [], length}
use Rattle.counter_core.specs.NoLayers.{no_layer}
use Rattle.adversary_script.specs.Eras.{first_of_era}
use Rattle.adversary_script.specs.Scripts.{IsScript}
use Rattle.round_runner.specs.Known.{known_from}
use Rattle.round_runner.specs.Runners.{IsPlaying, configuration_of}
use Rattle.round_runner.specs.Skipping.{IsSkipped}
use Rattle.round_runner.proofs.until_known.Runner+NoOverlay.play_until_known.Given as goal

-- it went on in the last era, and not past the configuration from which on all is known
abbrev pub invariant-loop-self : goal.invariant-loop-self
invariant-loop-self l = record {
  skipped : IsSkipped l.fn.self l.self.at l.self;
  whole : IsScript l.fn.self.script;
  within : l.self.at ≤ l.fn.self.script.rounds;
  on : l.fn.self.at ≤ l.self.at;
  begun : first_of_era l.fn.self.script (length l.fn.self.script.eras) ≤ l.self.at;
  short : (began : List (Unit {0})) → IsPlaying (λ o. no_layer) (λ o. []) began l.fn.self
      → (l.self.at ≡ l.fn.self.at) ⊎ (l.self.at ≤ known_from l.fn.self.plan l.fn.self.script
      (configuration_of (λ o. no_layer) began l.fn.self));
  played : (began : List (Unit {0})) → IsPlaying (λ o. no_layer) (λ o. []) began l.fn.self
      → IsPlaying (λ o. no_layer) (λ o. []) began l.self;
}

abbrev pub decreases-loop-self : goal.decreases-loop-self
decreases-loop-self l = l.fn.self.script.rounds - l.self.at
