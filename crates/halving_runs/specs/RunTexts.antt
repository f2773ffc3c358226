-- What is written of an input: the run of the plan and the script that it is read as, or the line
-- of its refusal.
use Rattle.std.specs.Prelude.{◌≡◌, ℕ, List, [], ◌∷◌, Option, Result, Ok, Err, codes, decimal}
use Rattle.std.specs.List.{concat}
use Rattle.texts.specs.Parts.{At, Found}
use Rattle.sync_types.specs.declared.answers.Part.{Part}
use Rattle.sync_types.specs.declared.answers.Rule.{Rule}
use Rattle.layer_laws.specs.Numbers.{Numbers}
use Rattle.layer_parts.specs.declared.registers.Registers.{Registers}
use Rattle.layer_parts.specs.LayerWords.{LayerWords}
use Rattle.texts.specs.Growth.{SinkState, Wrote, Cut}
use Rattle.sync_types.specs.Codes.{code_of}
use Rattle.sync_types.specs.declared.status.Status.TheVariants as status
use Rattle.machines.specs.Machines.{Machine}
use Rattle.machine_runner.specs.Locks.{is_locked}
use Rattle.machine_runner.specs.ShownTexts.{run_text}
use Rattle.machine_runner.specs.HoldTexts.{hold_text}
use Rattle.slot_table.specs.declared.lines.SlotLine.{SlotLine}
use Rattle.player.specs.Counters.{machine_counter}
use Rattle.layer_runner.specs.DecisionTexts.{decision_text}
use Rattle.layer_runner.specs.FireTexts.{fire_text}
use Rattle.layer_runner.specs.EntryTexts.{log_text}
use Rattle.consensus_layer.specs.AgreeContent.{AgreeContent}
use Rattle.firing.specs.declared.requests.Request.{Request}
use Rattle.replicated_log.specs.LogContent.{LogContent}
use Rattle.node_words.specs.Rules.{rule_word, part_word}
use Rattle.halving_plan.specs.Laws.{machine_in}
use Rattle.halving_texts.specs.HalvingWords as halving
use Rattle.halving_runs.specs.declared.shown.Shown.{Shown}
use Rattle.halving_runs.specs.declared.shown.Shown.TheVariants as shown
use Rattle.halving_runs.specs.declared.errors.RunRefusal.{RunRefusal}
use Rattle.halving_runs.specs.declared.errors.RunRefusal.TheVariants as refusal
use Rattle.halving_runs.specs.declared.errors.PlayError.{PlayError}
use Rattle.halving_runs.specs.declared.errors.PlayError.TheVariants as error
use Rattle.halving_runs.specs.RunInputs.{Scripted, scripted_of, Layered}
use Rattle.halving_runs.specs.LayerInputs.{slotted_of, agreed_of, firing_of, logging_of, layered_by}

-- ---- the line of a refusal

abbrev pub refusal_line : RunRefusal → List ℕ
refusal_line (refusal.Plan line premise) = halving.refusal_line line premise
refusal_line (refusal.Part part line rule) = concat (
    codes "refused " ∷ part_word part
    ∷ codes " line " ∷ decimal line
    ∷ codes " rule " ∷ rule_word rule
    ∷ codes "\n" ∷ [])

-- and its exit code: 1 of a plan, and else that of the part
abbrev pub refusal_code : RunRefusal → ℕ
refusal_code (refusal.Plan line premise) = 1
refusal_code (refusal.Part part line rule) = code_of (status.PartRefused part line rule)

-- ---- the run of a script on its plan's machine

-- a row of what the nodes show in each configuration that is shown
abbrev pub rows_of : Scripted → List ℕ
rows_of scripted = run_text (machine_in scripted.plan) scripted.script

-- which nodes hold in each of them
abbrev pub holds_of : Layered (List SlotLine) → List ℕ
holds_of slotted = hold_text slotted.said (machine_in slotted.plan) slotted.script

-- what is decided in each slot that counts
abbrev pub decisions_of : Layered AgreeContent → List ℕ
decisions_of read =
    let machine : Machine = machine_in read.plan in
    decision_text (machine_counter machine) (is_locked machine) read.script read.said

-- which nodes fire at the end of each of them
abbrev pub fires_of : Layered (List Request) → List ℕ
fires_of read =
    let machine : Machine = machine_in read.plan in
    fire_text (machine_counter machine) (is_locked machine) read.script read.said

-- the entry that each of them puts into the logs
abbrev pub entries_of : Layered LogContent → List ℕ
entries_of read =
    let machine : Machine = machine_in read.plan in
    log_text (machine_counter machine) (is_locked machine) read.script read.said

-- what is written of what was read
abbrev pub told_by : {V : Type 0} → (V → List ℕ) → Result V RunRefusal
    → Result (List ℕ) RunRefusal
told_by text (Ok read) = Ok (text read)
told_by text (Err refused) = Err refused

-- the run of an input with a part that says a layer
abbrev pub layer_run : {Content Kept : Type 0} → Part
    → (part_over : Numbers → (number : ℕ) → List (List ℕ) → Result (Found Content) (At Rule))
    → (registers : Content → Option Registers) → LayerWords Content Kept → List ℕ
    → Result (List ℕ) RunRefusal
layer_run name part_over registers words input =
    told_by (λ read.
    let machine : Machine = machine_in read.plan in
    words.text (machine_counter machine) (is_locked machine) read.script read.said)
    (layered_by name part_over registers input)

-- the run of an input, with lines of that kind
abbrev pub run_of : Shown → List ℕ → Result (List ℕ) RunRefusal
run_of shown.Rows input = told_by rows_of (scripted_of input)
run_of shown.Holds input = told_by holds_of (slotted_of input)
run_of shown.Decisions input = told_by decisions_of (agreed_of input)
run_of shown.Fires input = told_by fires_of (firing_of input)
run_of shown.Entries input = told_by entries_of (logging_of input)

-- ---- what is written, and what was

abbrev pub text_of : Result (List ℕ) RunRefusal → List ℕ
text_of (Ok text) = text
text_of (Err refused) = refusal_line refused

-- a run is defined, and was written
pub record IsPlayed (defined : Result (List ℕ) RunRefusal) (old new : SinkState) : Type 0 where
  pub text : List ℕ
  pub is : defined ≡ Ok text
  pub wrote : Wrote text old new

abbrev pub FailsToPlay : (defined : Result (List ℕ) RunRefusal) (old new : SinkState) → PlayError
    → Type 0
FailsToPlay defined old new (error.Refused refused) =
    (defined ≡ Err refused) × Wrote (refusal_line refused) old new
FailsToPlay defined old new error.NoMemory = new ≡ old
FailsToPlay defined old new error.WriteFault = Cut (text_of defined) old new

-- a text was written, or memory was refused before it
abbrev pub IsWritten : Result (Unit {0}) PlayError → (text : List ℕ) (old new : SinkState) → Type 0
IsWritten (Ok done) text old new = Wrote text old new
IsWritten (Err (error.Refused refused)) text old new = ⊥
IsWritten (Err error.NoMemory) text old new = new ≡ old
IsWritten (Err error.WriteFault) text old new = Cut text old new

-- if memory was refused, the sink is what it was
abbrev pub KeepsSink : {K : Type 0} → (old new : K) → PlayError → Type 0
KeepsSink old new error.NoMemory = new ≡ old
KeepsSink old new other = Unit {0}
