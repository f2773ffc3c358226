-- Texts of runs of a plan and of its machine.
use Rattle.std.specs.Prelude.{◌≡◌, List}
use Rattle.construction.specs.Plans.{Plan}
use Rattle.adversary_script.specs.Scripts.{Script}
use Rattle.plan_machine.specs.PlanMachines.{machine_of_plan}
use Rattle.slot_table.specs.declared.lines.SlotLine.{SlotLine}
use Rattle.run_lines.specs.RowTexts as plan_rows
use Rattle.run_lines.specs.HoldTexts as plan_holds
use Rattle.machine_runner.specs.ShownTexts as machine_rows
use Rattle.machine_runner.specs.HoldTexts as machine_holds

-- The text of a run of a plan is that of its machine.
abbrev pub RunTextsAgree : Type 0
RunTextsAgree = (plan : Plan) (script : Script)
    → plan_rows.run_text plan script ≡ machine_rows.run_text (machine_of_plan plan) script

-- So is that of a slot table.
abbrev pub HoldTextsAgree : Type 0
HoldTextsAgree = (plan : Plan) (script : Script) (lines : List SlotLine)
    → plan_holds.hold_text plan script lines
    ≡ machine_holds.hold_text lines (machine_of_plan plan) script
