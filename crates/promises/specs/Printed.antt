-- What a call that ended well read and wrote, over a source that tells its bytes: each word with
-- its promise.
use Rattle.std.specs.Prelude.{◌≡◌, ℕ, ◌≤◌, ◌^◌, List, length, Option, Some, None, IfSome, Result}
use Rattle.std.specs.Prelude.{Ok, codes}
use Rattle.sync_types.specs.declared.status.Status.{Status}
use Rattle.sync_types.specs.declared.status.Status.TheVariants as status
use Rattle.texts.specs.Growth.{SinkState, Wrote}
use Rattle.construction.specs.Plans.{Plan}
use Rattle.adversary_script.specs.Scripts.{Script}
use Rattle.plan_finder.specs.declared.wants.Want.{Want}
use Rattle.run_checker.specs.Certificates.{certificate_text}
use Rattle.run_checker.specs.Recorded.{certificate_of}
use Rattle.plan_certificate.specs.Tables.{table_text}
use Rattle.plan_reader.specs.PlanTexts.{plan_text}
use Rattle.run_lines.specs.HoldTexts.{hold_text}
use Rattle.run_lines.specs.DecisionTexts.{decision_text}
use Rattle.run_lines.specs.FireTexts.{fire_text}
use Rattle.run_lines.specs.EntryTexts.{log_text}
use Rattle.outcomes.specs.declared.commands.Command.{Command}
use Rattle.outcomes.specs.declared.commands.Command.TheVariants as command
use Rattle.outcomes.specs.declared.refusals.Refusal.{Refusal}
use Rattle.outcomes.specs.declared.commands.Batch.{Batch}
use Rattle.outcomes.specs.declared.commands.Batch.TheVariants as batch
use Rattle.outcomes.specs.Inputs.{scripted_of, plan_alone, wants_of, tabled_of}
use Rattle.outcomes.specs.Answers.{text_for_want}
use Rattle.outcomes.specs.CheckAnswers.{true_line}
use Rattle.run_lines.specs.RowTexts.{run_text}
use Rattle.outcomes.specs.ExplainText.{explain_text}
use Rattle.outcomes.specs.Layered.{Layered, slotted_of, agreed_of, firing_of, logging_of}
use Rattle.outcomes.specs.DemoText.{demo_text}
use Rattle.outcomes.specs.Conduct.{Does}
use Rattle.promises.specs.Laws.{IsSelfStabilising, KeepsPromise}
use Rattle.promises.specs.CheckLaws.{IsTrueText}
use Rattle.promises.specs.FindPromises.{IsFound}
use Rattle.promises.specs.PlanPromises.{IsTableOf}
use Rattle.promises.specs.RecordLaws.{IsRecorded}
use Rattle.promises.specs.LayerPromises.{KeepsHolds, KeepsDecisions, KeepsFires, KeepsEntries}

-- The input is read as a value, the sink took the text of this value, and a promise is kept of it.
pub record Printed {X : Type 0} (read : List ℕ → Result X Refusal) (text : X → List ℕ)
    (Promise : X → Type 0) (input : List ℕ) (old new : SinkState) : Type 0 where
  pub value : X
  pub is : read input ≡ Ok value
  pub wrote : Wrote (text value) old new
  pub kept : Promise value

-- of a plan and a script
abbrev pub ScriptPrinted : (text : Plan → Script → List ℕ) (Promise : Plan → Script → Type 0)
    → (input : List ℕ) (old new : SinkState) → Type 0
ScriptPrinted text Promise =
    Printed scripted_of (λ s. text s.plan s.script) (λ s. Promise s.plan s.script)

-- of a plan, what is said of a layer, and a script
abbrev pub LayerPrinted : {Content : Type 0} (read : List ℕ → Result (Layered Content) Refusal)
    → (text : Plan → Script → Content → List ℕ) (Promise : Plan → Script → Content → Type 0)
    → (input : List ℕ) (old new : SinkState) → Type 0
LayerPrinted read text Promise =
    Printed read (λ s. text s.plan s.script s.said) (λ s. Promise s.plan s.script s.said)

-- of wants, that the least plan is found
abbrev pub IsFoundFor : Want → Type 0
IsFoundFor want = IsFound (Ok (text_for_want want)) want

-- of a certificate, that it is true
pub record CheckPrinted (input : List ℕ) (old new : SinkState) : Type 0 where
  pub rows : ℕ
  pub locked : Option ℕ
  pub wrote : Wrote (true_line rows locked) old new
  pub is : IsTrueText input rows locked

-- each batch command
abbrev pub BatchPrinted : Batch → (input : List ℕ) (old new : SinkState) → Type 0
BatchPrinted batch.Run = ScriptPrinted run_text KeepsPromise
BatchPrinted batch.Explain = ScriptPrinted explain_text KeepsPromise
BatchPrinted batch.Record =
    ScriptPrinted (λ plan script. certificate_text (certificate_of plan script)) IsRecorded
BatchPrinted batch.Plan = Printed plan_alone table_text IsSelfStabilising
BatchPrinted batch.Upgrade = Printed plan_alone (plan_text 2) IsSelfStabilising
BatchPrinted batch.Slots = LayerPrinted slotted_of hold_text KeepsHolds
BatchPrinted batch.Consensus = LayerPrinted agreed_of decision_text KeepsDecisions
BatchPrinted batch.Fire = LayerPrinted firing_of fire_text KeepsFires
BatchPrinted batch.Log = LayerPrinted logging_of log_text KeepsEntries
BatchPrinted batch.Find = Printed wants_of text_for_want IsFoundFor
BatchPrinted batch.Table =
    λ input. Printed tabled_of (λ plan. codes "true\n") (IsTableOf input) input

-- each command; what `node` promises is said of many calls
abbrev pub PrintedBy : Command → (input : List ℕ) (old new : SinkState) → Type 0
PrintedBy (command.Batch b) = BatchPrinted b
PrintedBy command.Check = λ input old new. length input ≤ 2 ^ 44 → CheckPrinted input old new
PrintedBy (command.Demo seed) =
    λ input. ScriptPrinted run_text KeepsPromise (demo_text seed)
PrintedBy command.Node = λ input old new. Unit {0}

-- if a call ended well
abbrev pub IfWell : Status → Type 0 → Type 0
IfWell status.Ok P = P
IfWell other P = Unit {0}

-- if the source tells what it had left, and the call ended well
abbrev pub Prints : Option Command → Status → (left : Option (List ℕ)) → (old new : SinkState)
    → Type 0
Prints None s left old new = Unit {0}
Prints (Some command) s left old new =
    IfSome left (λ input. IfWell s (PrintedBy command input old new))

-- Whatever a call does, it so prints.
abbrev pub PromisesArePrinted : Type 0
PromisesArePrinted = (c : Option Command) (s : Status) (left left' : Option (List ℕ))
    (before now : ℕ) (old new : SinkState)
    → Does c s left left' before now old new → Prints c s left old new
