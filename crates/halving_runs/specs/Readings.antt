-- What was read of an input, and what an error of reading says of it. Want of memory says nothing.
use Rattle.std.specs.Prelude.{◌≡◌, ℕ, List, Result, Ok, Err}
use Rattle.sync_types.specs.declared.answers.Part.{Part}
use Rattle.sync_types.specs.declared.answers.Rule.{Rule}
use Rattle.edge_io.specs.declared.taking.PartError.{PartError}
use Rattle.edge_io.specs.declared.taking.PartError.TheVariants as part
use Rattle.state_codec.specs.Shapes.{Shape}
use Rattle.adversary_script.specs.Scripts.{Script, IsScript}
use Rattle.adversary_script.specs.ScriptPart.{IsScriptFor}
use Rattle.machine_runner.specs.Laws.{IsReadFor}
use Rattle.slot_table.specs.declared.lines.SlotLine.{SlotLine}
use Rattle.halving_plan.specs.Plans.{HalvingNumbers}
use Rattle.halving_plan.specs.Laws.{machine_in}
use Rattle.halving_texts.specs.declared.refusals.HalvingError.{HalvingError}
use Rattle.halving_texts.specs.declared.refusals.HalvingError.TheVariants as halving
use Rattle.halving_runs.specs.declared.errors.RunRefusal.{RunRefusal}
use Rattle.halving_runs.specs.declared.errors.RunRefusal.TheVariants as refusal
use Rattle.halving_runs.specs.declared.errors.PlayError.{PlayError}
use Rattle.halving_runs.specs.declared.errors.PlayError.TheVariants as error
use Rattle.halving_runs.specs.RunInputs.{in_script, then_read, script_behind, scripted_of}
use Rattle.halving_runs.specs.LayerInputs.{slotted_of}

-- ---- the errors of parts, as errors of an input

abbrev pub plan_error : HalvingError → PlayError
plan_error halving.NoMemory = error.NoMemory
plan_error (halving.Refused refused) = error.Refused (refusal.Plan refused.line refused.premise)

abbrev pub part_error : Part → PartError Rule → PlayError
part_error name part.NoMemory = error.NoMemory
part_error name (part.Refused refused) =
    error.Refused (refusal.Part name refused.line refused.rule)

-- a refusal is exactly the one that is defined; no reading fails to write
abbrev pub Refuses : {V : Type 0} → PlayError → Result V RunRefusal → Type 0
Refuses (error.Refused refused) defined = defined ≡ Err refused
Refuses error.NoMemory defined = Unit {0}
Refuses error.WriteFault defined = ⊥

-- ---- what was read: a plan, the shape of its states, and a script

-- the script is the one of these lines, the first of which has that number, for states of that
-- shape
pub record IsReadBehind (plan : HalvingNumbers) (shape : Shape) (number : ℕ) (lines : List (List ℕ))
    (read : HalvingNumbers × Shape × Script) : Type 0 where
  pub same : read.0 ≡ plan
  pub states : read.1 ≡ shape
  pub is : script_behind plan shape number lines ≡ Ok read.2

abbrev pub FailsBehind : (plan : HalvingNumbers) (shape : Shape) (number : ℕ) → List (List ℕ)
    → PlayError → Type 0
FailsBehind plan shape number lines error =
    Refuses error
    (then_read in_script (λ (s : Script). Ok s) (script_behind plan shape number lines))

-- a script for a plan's nodes and faults, and for states of that shape
pub record IsScriptForHalving (plan : HalvingNumbers) (shape : Shape) (script : Script) : Type 0 where
  pub right : IsScriptFor plan.nodes plan.faults shape script
  pub whole : IsScript script

-- the script is for the plan's machine, and states of that shape
pub record CanPlay (read : HalvingNumbers × Shape × Script) : Type 0 where
  pub for : IsReadFor (machine_in read.0) read.2
  pub shape : read.2.shape ≡ read.1

-- the plan and the script of an input
pub record IsReadAs (input : List ℕ) (read : HalvingNumbers × Shape × Script) : Type 0 where
  pub is : scripted_of input ≡ Ok (record { plan = read.0; script = read.2 })
  pub plays : CanPlay read

-- an input is refused exactly as it is defined
abbrev pub FailsToRead : (input : List ℕ) → PlayError → Type 0
FailsToRead input error = Refuses error (scripted_of input)

-- the slot table, the plan and the script of an input
pub record IsSlotted (input : List ℕ) (read : List SlotLine × (HalvingNumbers × Shape × Script))
    : Type 0 where
  pub is : slotted_of input
      ≡ Ok (record { plan = read.1.0; said = read.0; script = read.1.2 })
  pub plays : CanPlay read.1
