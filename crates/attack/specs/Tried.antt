-- What becomes of a text that is tried on a machine.
use Rattle.std.specs.Prelude.{ℕ, List, Option, Result, Ok, Err}
use Rattle.texts.specs.Lines.{lines_of}
use Rattle.texts.specs.Parts.{At}
use Rattle.sync_types.specs.declared.answers.Rule.{Rule}
use Rattle.state_codec.specs.Shapes.{Shape, shape_nodes}
use Rattle.machines.specs.Machines.{Machine}
use Rattle.adversary_script.specs.Scripts.{Script}
use Rattle.adversary_script.specs.ScriptPart.{script_for}
use Rattle.machine_runner.specs.Locks.{first_locked, era_locked}
use Rattle.machine_runner.specs.Played.{played_at}
use Rattle.attack.specs.declared.trying.Tried.{Tried}
use Rattle.attack.specs.declared.trying.Tried.TheVariants as tried

-- of what is played of a script, the first locked configuration of era 0
abbrev pub lock_of : Machine → Script → Option ℕ
lock_of machine script =
    first_locked (era_locked machine script (played_at machine script) 0) script.rounds

-- the script of a text whose first line has that number, by the machine's faults and the shape of
-- its states
abbrev pub script_in : Machine → Shape → (first_line : ℕ) → (text : List ℕ)
    → Result Script (At Rule)
script_in machine shape first_line text =
    script_for (shape_nodes shape) machine.faults shape first_line (lines_of text)

abbrev pub tried_as : Machine → Result Script (At Rule) → Tried
tried_as machine (Ok script) = tried.Played (lock_of machine script)
tried_as machine (Err at) = tried.Refused

-- what becomes of a text
abbrev pub tried_of : Machine → Shape → (first_line : ℕ) → (text : List ℕ) → Tried
tried_of machine shape first_line text = tried_as machine (script_in machine shape first_line text)
