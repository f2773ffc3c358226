-- What the lines of a slot table promise.
use Rattle.std.specs.Prelude.{◌≡◌, ℕ, ◌+◌, ◌<◌, ◌≤◌, List, false, codes}
use Rattle.sync_types.specs.FaultSets.{is_in}
use Rattle.adversary_script.specs.Scripts.{Script}
use Rattle.adversary_script.specs.Eras.{era_of, first_of_era, faulty_at}
use Rattle.machines.specs.Machines.{Machine}
use Rattle.machines.specs.Laws.{IsSound}
use Rattle.machine_runner.specs.Laws.{IsReadFor}
use Rattle.slot_table.specs.declared.lines.SlotLine.{SlotLine}
use Rattle.machine_runner.specs.HoldTexts.{hold_word}

-- In each line that is of a configuration from the bound on, counted from the first one of its era,
-- at most one word of a correct node is 1.
abbrev pub AtMostOneInALine : Type 0
AtMostOneInALine = (machine : Machine) (script : Script) → IsSound machine
    → IsReadFor machine script → (lines : List SlotLine) → (t : ℕ)
    → first_of_era script (era_of script t) + machine.bound ≤ t → t ≤ script.rounds
    → (u v : ℕ) → u < machine.nodes → is_in (faulty_at script t) u ≡ false
    → v < machine.nodes → is_in (faulty_at script t) v ≡ false
    → hold_word lines machine script t u ≡ codes " 1"
    → hold_word lines machine script t v ≡ codes " 1" → u ≡ v
