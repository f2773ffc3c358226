-- What the word `log` writes: of each slot that counts and begins in a configuration that is shown,
-- its owner, and the newest values in the logs when it ends. It is what is written on any counter,
-- at that of the plan.
use Rattle.std.specs.Prelude.{ℕ, List}
use Rattle.construction.specs.Plans.{Plan}
use Rattle.plan_laws.specs.PlanMeaning.{plan_meaning}
use Rattle.adversary_script.specs.Scripts.{Script}
use Rattle.layer_laws.specs.Scenes.{Scene}
use Rattle.replicated_log.specs.declared.entries.Entry.{Entry}
use Rattle.replicated_log.specs.LogContent.{LogContent}
use Rattle.round_runner.specs.Locks.{is_locked}
use Rattle.layer_runner.specs.EntryTexts as any
pub use Rattle.layer_runner.specs.EntryTexts.{newest_value, entry_word, entry_front, output_before}
pub use Rattle.layer_runner.specs.EntryTexts.{entry_wording}

module _ (plan : Plan) (script : Script) (said : LogContent) where
  -- scene c of what is played, if all logs are empty at first
  abbrev pub log_scene : (c : ℕ) → Scene (List Entry)
  log_scene c = any.log_scene (plan_meaning plan) script said c

  -- the output in configuration t, by the correct node of the lowest id
  abbrev pub output_at : (t : ℕ) → ℕ
  output_at t = any.output_at (plan_meaning plan) script said t

  -- the owner of a slot that begins in configuration t
  abbrev pub slot_owner : (t : ℕ) → ℕ
  slot_owner t = any.slot_owner (plan_meaning plan) script said t

  -- the line of that slot: its owner, and the newest values when it ends
  abbrev pub entry_line : (t : ℕ) → List ℕ
  entry_line t = any.entry_line (plan_meaning plan) script said t

  -- all that is written
  abbrev pub log_text : List ℕ
  log_text = any.log_text (plan_meaning plan) (is_locked plan) script said
