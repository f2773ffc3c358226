-- What the word `slots` writes: for each configuration that is shown, which nodes hold at the
-- outputs that they show.
use Rattle.std.specs.Prelude.{ℕ, List, codes}
use Rattle.sync_types.specs.States.{State}
use Rattle.construction.specs.Plans.{Plan, plan_depth}
use Rattle.construction.specs.Shown.{shown}
use Rattle.construction.specs.Steps.{state_of}
use Rattle.adversary_script.specs.Scripts.{Script}
use Rattle.slot_table.specs.declared.lines.SlotLine.{SlotLine}
pub use Rattle.slot_table.specs.HoldWords.{hold_word_at}
use Rattle.run_lines.specs.PlayedTexts.{Wording}
use Rattle.run_lines.specs.ShownTexts.{shown_text}
use Rattle.run_lines.specs.OutputTexts.{output_wording}

-- a node's word: whether it is the holder of the output that it shows
abbrev pub hold_word : Plan → List SlotLine → List State → (v : ℕ) → List ℕ
hold_word plan lines config v = hold_word_at lines (shown (plan_depth plan) (state_of config v)) v

-- all that is written
abbrev pub hold_text : Plan → Script → List SlotLine → List ℕ
hold_text plan script lines = shown_text (codes "hold ") (λ plan. hold_word plan lines) plan script

-- how it is written while the script is played
abbrev pub hold_wording : List SlotLine → Wording (Unit {0})
hold_wording lines = output_wording (codes "hold ") (hold_word_at lines)
