-- What holds of the lines of a slot table.
use Rattle.std.specs.Prelude.{◌≡◌, ◌↔◌, ℕ, ◌+◌, ◌<◌, ◌≤◌, List, false, Some, Ok, codes}
use Rattle.sync_types.specs.FaultSets.{is_in}
use Rattle.construction.specs.Steps.{state_of}
use Rattle.adversary_script.specs.Scripts.{Script}
use Rattle.adversary_script.specs.Eras.{era_of, first_of_era, faulty_at}
use Rattle.machines.specs.Machines.{Machine, AllShow}
use Rattle.machine_runner.specs.HoldTexts.{hold_word}
use Rattle.machine_runner.specs.Played.{played_at}
use Rattle.slot_table.specs.declared.lines.SlotLine.{SlotLine}
use Rattle.slot_table.specs.HoldWords.{IsHoldWord}
use Rattle.slot_table.specs.SlotPart.{IsTable}
use Rattle.slot_table.specs.Tables.{holder_of}
use Rattle.halving_plan.specs.Plans.{HalvingNumbers}
use Rattle.halving_plan.specs.Laws.{machine_in}
use Rattle.halving_runs.specs.RunInputs.{Layered}
use Rattle.halving_runs.specs.LayerInputs.{slotted_of}
use Rattle.halving_runs.specs.RunPromises.{RunKeepsPromise}

module _ (machine : Machine) (script : Script) (table : List SlotLine) where
  -- what node v shows in configuration t
  abbrev pub output_shown : (t v : ℕ) → ℕ
  output_shown t v = machine.shows v (state_of (played_at machine script t) v)

  -- A node's word is 1 exactly if the table gives it the output that it shows. If all correct nodes
  -- show one output, that of a correct one is 1 exactly if the node is that output's holder. From
  -- the bound on, counted from the first configuration of an era, at most one correct node's word
  -- is 1.
  pub record LinesHold : Type 0 where
    pub words : (t v : ℕ) → IsHoldWord table (output_shown t v) v
    pub holder : (t output : ℕ)
        → AllShow machine (faulty_at script t) (played_at machine script t) output
        → (v : ℕ) → v < machine.nodes → is_in (faulty_at script t) v ≡ false
        → (hold_word table machine script t v ≡ codes " 1") ↔ (holder_of table output ≡ Some v)
    pub one : (t : ℕ) → first_of_era script (era_of script t) + machine.bound ≤ t
        → t ≤ script.rounds
        → (u v : ℕ) → u < machine.nodes → is_in (faulty_at script t) u ≡ false
        → v < machine.nodes → is_in (faulty_at script t) v ≡ false
        → hold_word table machine script t u ≡ codes " 1"
        → hold_word table machine script t v ≡ codes " 1" → u ≡ v

-- The run keeps what a run without a table does: from the bound on all correct nodes show one
-- output, which counts. The table is one of the plan's nodes and outputs.
pub record HoldsKeepPromise (plan : HalvingNumbers) (table : List SlotLine) (script : Script)
    : Type 0 where
  pub run : RunKeepsPromise plan script
  pub fits : IsTable plan.nodes plan.modulus table
  pub lines : LinesHold (machine_in plan) script table

-- So it is with each input that is read as a plan, a slot table and a script.
abbrev pub SlotsKeepPromise : Type 0
SlotsKeepPromise = (input : List ℕ) (slotted : Layered (List SlotLine))
    → slotted_of input ≡ Ok slotted
    → HoldsKeepPromise slotted.plan slotted.said slotted.script
