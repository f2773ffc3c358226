-- Lines that are written of each run of a plan: words of its nodes, and which configuration of each
-- era is the first locked one.
use Rattle.std.specs.Prelude.{ℕ, List, Option}
use Rattle.sync_types.specs.States.{State}
use Rattle.construction.specs.Plans.{Plan, plan_nodes}
use Rattle.adversary_script.specs.Scripts.{Script}
use Rattle.round_runner.specs.Locks.{is_locked}
use Rattle.machine_runner.specs.RunTexts as texts
pub use Rattle.machine_runner.specs.RunTexts.{bound_line, number_word, word_or_star, locked_line}
use Rattle.layer_runner.specs.LockTexts as any

-- the words of all nodes
abbrev pub words_of_nodes : Plan → (word : ℕ → List ℕ) → (faulty : List ℕ) → List ℕ
words_of_nodes plan word faulty = texts.words_of (plan_nodes plan) word faulty

module _ (plan : Plan) (script : Script) (config_at : ℕ → List State) where
  -- the first locked configuration of era j among those that are played
  abbrev pub lock_of_era : (j : ℕ) → Option ℕ
  lock_of_era j = any.lock_of_era (is_locked plan) script config_at j

  abbrev pub era_line : (j : ℕ) → List ℕ
  era_line j = any.era_line (is_locked plan) script config_at j

  -- for a script of version 1 one line, else one for each era
  abbrev pub lock_lines : List ℕ
  lock_lines = any.lock_lines (is_locked plan) script config_at
