-- What the lines of first locked configurations promise of the words that play a layer.
use Rattle.std.specs.Prelude.{ℕ, List, IfOk}
use Rattle.round_runner.specs.Played.{played_at}
use Rattle.run_lines.specs.DecisionTexts.{agree_scene}
use Rattle.run_lines.specs.FireTexts.{fire_scene}
use Rattle.run_lines.specs.EntryTexts.{log_scene}
use Rattle.promises.specs.Locks.{LocksAreFirst}
use Rattle.outcomes.specs.Layered.{slotted_of, agreed_of, firing_of, logging_of}

-- If an input is a plan, such a part and a script, the W of the line of each era is the era's first
-- locked configuration, at the bound or before if the era reaches the bound. States have the
-- layer's registers after those of the plan.
pub record LocksAreKept : Type 0 where
  pub slots : (input : List ℕ) → IfOk (slotted_of input)
      (λ read. LocksAreFirst read.plan read.script (played_at read.plan read.script))
  pub consensus : (input : List ℕ) → IfOk (agreed_of input)
      (λ read. LocksAreFirst read.plan read.script
      (λ c. (agree_scene read.plan read.script read.said c).states))
  pub fire : (input : List ℕ) → IfOk (firing_of input)
      (λ read. LocksAreFirst read.plan read.script
      (λ c. (fire_scene read.plan read.script read.said c).states))
  pub log : (input : List ℕ) → IfOk (logging_of input)
      (λ read. LocksAreFirst read.plan read.script
      (λ c. (log_scene read.plan read.script read.said c).states))
