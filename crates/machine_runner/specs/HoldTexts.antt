-- What is written of a slot table: of each configuration that is shown, which nodes hold at the
-- outputs that they show.
use Rattle.std.specs.Prelude.{ℕ, List, codes}
use Rattle.adversary_script.specs.Scripts.{Script}
use Rattle.machines.specs.Machines.{Machine}
use Rattle.slot_table.specs.declared.lines.SlotLine.{SlotLine}
use Rattle.slot_table.specs.HoldWords.{hold_word_at}
use Rattle.machine_runner.specs.ShownTexts.{word_at, shown_text}

-- the word of node v in configuration t
abbrev pub hold_word : List SlotLine → Machine → Script → (t v : ℕ) → List ℕ
hold_word lines machine script t v =
    word_at (codes "hold ") (hold_word_at lines) machine script t v

-- what the word `slots` writes
abbrev pub hold_text : List SlotLine → Machine → Script → List ℕ
hold_text lines machine script =
    shown_text (codes "hold ") (hold_word_at lines) machine script
