-- The text of each script is read as this script.
use Rattle.std.specs.Prelude.{◌≡◌, ℕ, ◌≤◌, List, ◌++◌, length, Ok, IfOk}
use Rattle.texts.specs.Lines.{lines_of}
use Rattle.state_codec.specs.Shapes.{Shape, IsShape}
use Rattle.adversary_script.specs.Scripts.{Script}
use Rattle.adversary_script.specs.ScriptPart.{part_for, script_for}
use Rattle.adversary_script.specs.ScriptTexts.{script_lines, script_text}
use Rattle.adversary_script.specs.Writable.{FitsLines, IsWritableFor}

-- The text of a script for at most 256 nodes and states of a shape is read as this script, whatever
-- text follows.
abbrev pub ScriptTextIsRead : Type 0
ScriptTextIsRead = (nodes faults : ℕ) → nodes ≤ 256 → (shape : Shape) → IsShape shape
    → FitsLines nodes shape → (s : Script) → IsWritableFor nodes faults shape s
    → (number : ℕ) (rest : List ℕ)
    → part_for nodes faults shape number (lines_of (script_text s ++ rest))
    ≡ Ok (record { value = s; taken = length (script_lines s); behind = lines_of rest })

-- and alone
abbrev pub ScriptTextIsWhole : Type 0
ScriptTextIsWhole = (nodes faults : ℕ) → nodes ≤ 256 → (shape : Shape) → IsShape shape
    → FitsLines nodes shape → (s : Script) → IsWritableFor nodes faults shape s → (number : ℕ)
    → script_for nodes faults shape number (lines_of (script_text s)) ≡ Ok s

-- A text can say every script that is read: there are no other scripts than those.
abbrev pub ReadIsWritable : Type 0
ReadIsWritable = (nodes faults : ℕ) (shape : Shape) → IsShape shape → (number : ℕ)
    (lines : List (List ℕ))
    → IfOk (script_for nodes faults shape number lines) (IsWritableFor nodes faults shape)
