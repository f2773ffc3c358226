-- A call that ends well has read a value and written its text, of which the promise is kept.
use Rattle.std.proofs.Common.{◌≡◌, ℕ, Bool, true, false, cond, ltb, List, length, Option, Some}
use Rattle.std.proofs.Common.{None, Result, Ok, Err, refl, subst}
use Rattle.std.specs.Prelude.{IfOk, codes}
use Rattle.sync_types.specs.declared.answers.Premise.{Premise}
use Rattle.sync_types.specs.declared.status.Status.{Status}
use Rattle.sync_types.specs.declared.status.Status.TheVariants as status
use Rattle.texts.specs.Parts.{At}
use Rattle.texts.specs.Growth.{SinkState}
use Rattle.texts.specs.Limits.{longest_input}
use Rattle.construction.specs.Plans.{Plan}
use Rattle.plan_certificate.specs.Tables.{table_text}
use Rattle.plan_reader.specs.PlanTexts.{plan_text}
use Rattle.plan_finder.specs.declared.wants.Want.{Want}
use Rattle.plan_numbers.specs.Premises.{IsAccepted}
use Rattle.plan_reader.specs.PlanPart.{whole_plan_of}
use Rattle.plan_reader.proofs.AcceptedPlans.{whole_plan_accepted}
use Rattle.run_checker.specs.declared.Verdict.{Verdict}
use Rattle.run_checker.specs.declared.Verdict.TheVariants as verdict
use Rattle.run_checker.specs.Checks.{unlimited}
use Rattle.run_checker.specs.Certificates.{certificate_text}
use Rattle.run_checker.specs.Recorded.{certificate_of}
use Rattle.run_lines.specs.HoldTexts.{hold_text}
use Rattle.run_lines.specs.DecisionTexts.{decision_text}
use Rattle.run_lines.specs.FireTexts.{fire_text}
use Rattle.run_lines.specs.EntryTexts.{log_text}
use Rattle.outcomes.specs.declared.commands.Command.{Command}
use Rattle.outcomes.specs.declared.commands.Command.TheVariants as command
use Rattle.outcomes.specs.declared.refusals.Refusal.{Refusal}
use Rattle.outcomes.specs.declared.refusals.Refusal.TheVariants as refusal
use Rattle.outcomes.specs.Refusals.{refusal_status}
use Rattle.outcomes.specs.Outcomes.{Outcome, outcome_of, too_long}
use Rattle.outcomes.specs.declared.commands.Batch.{Batch}
use Rattle.outcomes.specs.declared.commands.Batch.TheVariants as batch
use Rattle.outcomes.specs.Inputs.{scripted_of, in_plan, or_refusal, plan_alone, wants_of, tabled_of}
use Rattle.outcomes.specs.Answers.{text_by, text_for_want, answer_of}
use Rattle.run_lines.specs.RowTexts.{run_text}
use Rattle.outcomes.specs.ExplainText.{explain_text}
use Rattle.outcomes.specs.Layered.{slotted_of, agreed_of, firing_of, logging_of}
use Rattle.outcomes.specs.DemoText.{demo_text}
use Rattle.outcomes.specs.CheckAnswers.{checked_outcome}
use Rattle.promises.specs.CheckLaws.{Says, CheckIsExact}
use Rattle.outcomes.specs.Commands.{defined}
use Rattle.outcomes.specs.Conduct.{Does}
use Rattle.promises.specs.Completeness.{HasOutcome}
use Rattle.promises.specs.Laws.{IsSelfStabilising, AcceptedStabilise, KeepsPromise, PromiseIsKept}
use Rattle.promises.specs.RecordLaws.{IsRecorded, RecordsAreChecked}
use Rattle.promises.specs.LayerPromises.{KeepsHolds, KeepsDecisions, KeepsFires, KeepsEntries}
use Rattle.promises.specs.LayerPromises.{HoldsAreKept, DecisionsAreKept, FiresAreKept}
use Rattle.promises.specs.LayerPromises.{EntriesAreKept}
use Rattle.promises.specs.FindPromises.{IsFound, LeastIsFound}
use Rattle.promises.specs.PlanPromises.{IsTableOf, TextsAreKept}
use Rattle.promises.specs.Printed.{Printed, IsFoundFor, CheckPrinted, BatchPrinted, PrintedBy}
use Rattle.promises.specs.Printed.{Prints, PromisesArePrinted}
use Rattle.promises.proofs.Complete.{answered_outcome}

-- a refusal has a status of its own
refused : (r : Refusal) → status.Ok ≡ refusal_status r → ⊥
refused refusal.Usage is = cc
refused (refusal.Plan line premise) is = cc
refused (refusal.Part part line rule) is = cc
refused (refusal.Certificate line) is = cc
refused (refusal.Table line cause) is = cc

-- an input that is not too long has the outcome of its answer
short : (beyond : Bool) (answer : Outcome) (old new : SinkState)
    → HasOutcome (cond beyond too_long answer) status.Ok old new
    → HasOutcome answer status.Ok old new
short true answer old new h = let is = h.status in absurd (cc)
short false answer old new h = h

-- an answer that is the text of what was read, or the refusal that was read
module _ {X : Type 0} (read : List ℕ → Result X Refusal) (text : X → List ℕ) (Promise : X → Type 0)
    (input : List ℕ) (old new : SinkState) where
  by_reading : (r : Result X Refusal) → read input ≡ r → IfOk r Promise
      → HasOutcome (outcome_of (text_by text r)) status.Ok old new
      → Printed read text Promise input old new
  by_reading (Ok x) is kept h = record { value = x; is = is; wrote = h.wrote; kept = kept }
  by_reading (Err r) is kept h = absurd (refused r h.status)

  printed : IfOk (read input) Promise
      → HasOutcome (outcome_of (text_by text (read input))) status.Ok old new
      → Printed read text Promise input old new
  printed = by_reading (read input) refl

-- what is said of wants
wants_kept : (r : Result Want Refusal) → IfOk r (λ want. IsFound (text_by text_for_want r) want)
    → IfOk r IsFoundFor
wants_kept (Ok want) is = is
wants_kept (Err r) is = tt

-- a verdict that ends well
check_by : (input : List ℕ) (old new : SinkState) (answer : Result Verdict ℕ) → Says input answer
    → HasOutcome (checked_outcome (unlimited answer)) status.Ok old new
    → CheckPrinted input old new
check_by input old new (Ok (verdict.True rows locked)) says h =
    record { rows = rows; locked = locked; wrote = h.wrote; is = says }
check_by input old new (Ok (verdict.False row)) says h = let is = h.status in absurd (cc)
check_by input old new (Err line) says h = let is = h.status in absurd (cc)

-- an accepted plan stabilises
plan_kept : AcceptedStabilise → (r : Result Plan (At Premise)) → IfOk r IsAccepted
    → IfOk (or_refusal in_plan r) IsSelfStabilising
plan_kept law (Ok plan) accepted = law plan accepted
plan_kept law (Err at) accepted = tt

module _ (stabilise : AcceptedStabilise) (promise : PromiseIsKept) (check : CheckIsExact)
    (records : RecordsAreChecked) (holds : HoldsAreKept) (decisions : DecisionsAreKept)
    (fires : FiresAreKept) (entries : EntriesAreKept) (found : LeastIsFound)
    (texts : TextsAreKept) (input : List ℕ) (old new : SinkState) where
  by_batch : (b : Batch) → HasOutcome (outcome_of (answer_of b input)) status.Ok old new
      → BatchPrinted b input old new
  by_batch batch.Run h = printed scripted_of (λ s. run_text s.plan s.script)
      (λ s. KeepsPromise s.plan s.script) input old new (promise input) h
  by_batch batch.Explain h = printed scripted_of (λ s. explain_text s.plan s.script)
      (λ s. KeepsPromise s.plan s.script) input old new (promise input) h
  by_batch batch.Record h =
      printed scripted_of (λ s. certificate_text (certificate_of s.plan s.script))
      (λ s. IsRecorded s.plan s.script) input old new (records input) h
  by_batch batch.Plan h =
      printed plan_alone table_text IsSelfStabilising input old new
      (plan_kept stabilise (whole_plan_of input) (whole_plan_accepted input)) h
  by_batch batch.Upgrade h =
      printed plan_alone (plan_text 2) IsSelfStabilising input old new
      (plan_kept stabilise (whole_plan_of input) (whole_plan_accepted input)) h
  by_batch batch.Slots h = printed slotted_of (λ s. hold_text s.plan s.script s.said)
      (λ s. KeepsHolds s.plan s.script s.said) input old new (holds input) h
  by_batch batch.Consensus h = printed agreed_of (λ s. decision_text s.plan s.script s.said)
      (λ s. KeepsDecisions s.plan s.script s.said) input old new (decisions input) h
  by_batch batch.Fire h = printed firing_of (λ s. fire_text s.plan s.script s.said)
      (λ s. KeepsFires s.plan s.script s.said) input old new (fires input) h
  by_batch batch.Log h = printed logging_of (λ s. log_text s.plan s.script s.said)
      (λ s. KeepsEntries s.plan s.script s.said) input old new (entries input) h
  by_batch batch.Find h = printed wants_of text_for_want IsFoundFor input old new
      (wants_kept (wants_of input) (found input)) h
  by_batch batch.Table h = printed tabled_of (λ plan. codes "true\n") (IsTableOf input)
      input old new (texts.tables input) h

  by_word : (c : Command) → HasOutcome (defined (Some c) input) status.Ok old new
      → PrintedBy c input old new
  by_word (command.Batch b) h =
      by_batch b
      (short (ltb longest_input (length input)) (outcome_of (answer_of b input)) old new h)
  by_word command.Check h = λ few.
      let judged = check.inputs input few in
      check_by input old new judged.answer judged.says
      (subst (λ (o : Outcome). HasOutcome o status.Ok old new) judged.outcome h)
  by_word (command.Demo seed) h =
      printed scripted_of (λ s. run_text s.plan s.script) (λ s. KeepsPromise s.plan s.script)
      (demo_text seed) old new (promise (demo_text seed)) h
  by_word command.Node h = tt

  by_status : (c : Command) (s : Status) (left : Option (List ℕ)) (before now : ℕ)
      → Does (Some c) s (Some input) left before now old new
      → Prints (Some c) s (Some input) old new
  by_status c status.Ok left before now does =
      by_word c (answered_outcome (Some c) input left before now old new status.Ok does)
  by_status c status.ReadFault left before now does = tt
  by_status c status.WriteFault left before now does = tt
  by_status c status.NoMemory left before now does = tt
  by_status c status.Usage left before now does = tt
  by_status c (status.PlanRefused line premise) left before now does = tt
  by_status c (status.PartRefused part line rule) left before now does = tt
  by_status c (status.CertRefused line) left before now does = tt
  by_status c (status.TableRefused line cause) left before now does = tt
  by_status c (status.CertFalse row) left before now does = tt
  by_status c status.TooLong left before now does = tt
  by_status c (status.Cut packet sender) left before now does = tt

pub promises_printed : AcceptedStabilise → PromiseIsKept → CheckIsExact → RecordsAreChecked
    → HoldsAreKept → DecisionsAreKept → FiresAreKept → EntriesAreKept → LeastIsFound → TextsAreKept
    → PromisesArePrinted
promises_printed a b d e f g h i j k None s left left' before now old new does = tt
promises_printed a b d e f g h i j k (Some c) s None left' before now old new does = tt
promises_printed a b d e f g h i j k (Some c) s (Some input) left' before now old new does =
    by_status a b d e f g h i j k input old new c s left' before now does
