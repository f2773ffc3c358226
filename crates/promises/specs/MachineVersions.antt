-- The texts of a plan in both versions are of one machine.
use Rattle.std.specs.Prelude.{◌≡◌, ℕ}
use Rattle.construction.specs.Plans.{Plan}
use Rattle.plan_laws.specs.VersionLaws.{in_version}
use Rattle.plan_machine.specs.PlanMachines.{machine_of_plan}

-- A call of `node` is of this machine, and so is who calls the library with the plan's text, in
-- whichever version each of them has it.
abbrev pub VersionsAreOneMachine : Plan → Type 0
VersionsAreOneMachine plan =
    (version : ℕ) → machine_of_plan (in_version version plan) ≡ machine_of_plan plan
