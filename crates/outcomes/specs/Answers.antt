-- What each batch command answers to an input: the text of what it is read as, or the refusal.
use Rattle.std.specs.Prelude.{ℕ, List, Result, Ok, Err, codes}
use Rattle.plan_certificate.specs.Tables.{table_text}
use Rattle.plan_reader.specs.PlanTexts.{plan_text}
use Rattle.plan_finder.specs.declared.wants.Want.{Want}
use Rattle.plan_finder.specs.Least.{found_text}
use Rattle.run_checker.specs.Certificates.{certificate_text}
use Rattle.run_checker.specs.Recorded.{certificate_of}
use Rattle.run_lines.specs.RowTexts.{run_text}
use Rattle.run_lines.specs.HoldTexts.{hold_text}
use Rattle.run_lines.specs.DecisionTexts.{decision_text}
use Rattle.run_lines.specs.FireTexts.{fire_text}
use Rattle.run_lines.specs.EntryTexts.{log_text}
use Rattle.outcomes.specs.declared.commands.Batch.{Batch}
use Rattle.outcomes.specs.declared.commands.Batch.TheVariants as batch
use Rattle.outcomes.specs.declared.refusals.Refusal.{Refusal}
use Rattle.outcomes.specs.Inputs.{scripted_of, plan_alone, tabled_of, wants_of}
use Rattle.outcomes.specs.Layered.{slotted_of, agreed_of, firing_of, logging_of}
use Rattle.outcomes.specs.ExplainText.{explain_text}

-- the text of what was read, or its refusal
abbrev pub text_by : {X : Type 0} → (text : X → List ℕ) → Result X Refusal → Result (List ℕ) Refusal
text_by text (Err refusal) = Err refusal
text_by text (Ok value) = Ok (text value)

-- of wants, the least plan and the least costs
abbrev pub text_for_want : Want → List ℕ
text_for_want want = found_text want.faults want.modulus want.most

abbrev pub answer_of : Batch → List ℕ → Result (List ℕ) Refusal
answer_of batch.Run input = text_by (λ s. run_text s.plan s.script) (scripted_of input)
answer_of batch.Record input =
    text_by (λ s. certificate_text (certificate_of s.plan s.script)) (scripted_of input)
answer_of batch.Explain input = text_by (λ s. explain_text s.plan s.script) (scripted_of input)
answer_of batch.Plan input = text_by table_text (plan_alone input)
answer_of batch.Upgrade input = text_by (plan_text 2) (plan_alone input)
answer_of batch.Table input = text_by (λ plan. codes "true\n") (tabled_of input)
answer_of batch.Find input = text_by text_for_want (wants_of input)
answer_of batch.Slots input = text_by (λ s. hold_text s.plan s.script s.said) (slotted_of input)
answer_of batch.Consensus input =
    text_by (λ s. decision_text s.plan s.script s.said) (agreed_of input)
answer_of batch.Fire input = text_by (λ s. fire_text s.plan s.script s.said) (firing_of input)
answer_of batch.Log input = text_by (λ s. log_text s.plan s.script s.said) (logging_of input)
