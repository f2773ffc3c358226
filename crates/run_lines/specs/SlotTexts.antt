-- Lines that are written of slots on a plan's counter: the words of any counter, at that of the
-- plan.
use Rattle.std.specs.Prelude.{ℕ, List, Bool}
use Rattle.sync_types.specs.States.{State}
use Rattle.construction.specs.Plans.{Plan}
use Rattle.plan_laws.specs.PlanMeaning.{plan_meaning}
use Rattle.adversary_script.specs.Scripts.{Script}
use Rattle.layer_runner.specs.SlotTexts as any
pub use Rattle.layer_runner.specs.SlotTexts.{counts_at, may_end_at}

-- what the correct node of the lowest id shows in configuration c
abbrev pub lead_output : Plan → Script → (c : ℕ) → List State → ℕ
lead_output plan script c config = any.lead_output (plan_meaning plan) script c config

module _ (plan : Plan) (script : Script) (q : ℕ) where
  -- whether a slot of q rounds that counts begins in configuration t
  abbrev pub begins_at : (t : ℕ) → List State → Bool
  begins_at t config = any.begins_at (plan_meaning plan) script q t config

  -- a line of each such slot that begins in a configuration that is shown
  abbrev pub slot_lines : (config_at : ℕ → List State) → (line : ℕ → List ℕ) → List ℕ
  slot_lines config_at line = any.slot_lines (plan_meaning plan) script q config_at line

  -- whether one of these ends in configuration c, by the output there
  abbrev pub ends_at : (c : ℕ) → List State → Bool
  ends_at c config = any.ends_at (plan_meaning plan) script q c config
