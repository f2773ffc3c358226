-- The texts of plans and of tables are read back.
use Rattle.std.proofs.Common.{◌≡◌, ℕ, List, Result, Ok, Err, refl, ap, arith}
use Rattle.std.specs.Prelude.{IfOk}
use Rattle.texts.specs.Parts.{At}
use Rattle.sync_types.specs.declared.answers.Premise.{Premise}
use Rattle.sync_types.specs.declared.answers.Cause.{Cause}
use Rattle.construction.specs.Plans.{Plan}
use Rattle.plan_numbers.specs.Premises.{IsAccepted}
use Rattle.plan_laws.specs.VersionLaws.{VersionsAgree}
use Rattle.plan_reader.specs.PlanPart.{whole_plan_of}
use Rattle.plan_reader.proofs.AcceptedPlans.{whole_plan_accepted}
use Rattle.plan_certificate.specs.Tables.{table_text}
use Rattle.plan_certificate.specs.TableLines.{table_of}
use Rattle.plan_certificate.specs.TableLaws.{TablesAreRead, OnlyTablesAreRead}
use Rattle.plan_reader.specs.PlanTexts.{plan_text, PlanTextIsRead, PlanTextIsWhole}
use Rattle.plan_finder.specs.WantTexts.{WantTextIsRead}
use Rattle.slot_table.specs.SlotTexts.{SlotTextIsRead}
use Rattle.consensus_layer.specs.AgreeTexts.{AgreeTextIsRead}
use Rattle.firing.specs.RequestTexts.{RequestTextIsRead}
use Rattle.replicated_log.specs.LogTexts.{LogTextIsRead}
use Rattle.node_words.specs.HeaderTexts.{HeaderTextIsRead}
use Rattle.sync_types.specs.declared.answers.Part.TheVariants as part
use Rattle.outcomes.specs.Inputs.{in_plan, in_part, in_table, or_refusal}
use Rattle.outcomes.specs.Answers.{text_by}
use Rattle.adversary_script.specs.ScriptLaws.{ScriptTextIsWhole, ReadIsWritable}
use Rattle.promises.specs.DemoLaws.{DemoIsAccepted, LiarsAreSpread}
use Rattle.promises.specs.Skips.{SkippedLinesAreUnseen}
use Rattle.promises.specs.Worked.{WorkedAnswers}
use Rattle.promises.specs.PlanPromises.{AreTextsOf, IsTableOf, TextsAreKept, TextsAreRead}
use Rattle.promises.proofs.Answered.{inputs_are_answered}
use Rattle.promises.proofs.OnlyTexts.{only_texts}
use Rattle.promises.proofs.ScriptInputs.{script_inputs_read}
use Rattle.promises.proofs.TableWords.{table_is_said}

module _ (whole : PlanTextIsWhole) (read : TablesAreRead) (only : OnlyTablesAreRead)
    (versions : VersionsAgree) where
  texts_of : (r : Result Plan (At Premise)) → IfOk r IsAccepted
      → IfOk (or_refusal in_plan r) (AreTextsOf (text_by table_text (or_refusal in_plan r))
      (text_by (plan_text 2) (or_refusal in_plan r)))
  texts_of (Err at) accepted = tt
  texts_of (Ok plan) accepted = record {
    table = refl;
    says = table_is_said plan;
    table_read = ap (or_refusal in_table) (read plan accepted);
    text = refl;
    text_read = ap (or_refusal in_plan) (whole plan 2 accepted accepted.newest (omega arith));
    same = versions plan 2;
  }

  table_is : (input : List ℕ) (r : Result Plan (At Cause)) → table_of input ≡ r
      → IfOk (or_refusal in_table r) (IsTableOf input)
  table_is input (Err at) same = tt
  table_is input (Ok plan) same =
      let held = only input plan same in
      record { accepted = held.0; is = held.1 }

  pub texts_kept : TextsAreKept
  texts_kept = record {
    plans = λ input. texts_of (whole_plan_of input) (whole_plan_accepted input);
    tables = λ input. table_is input (table_of input) refl;
  }

pub texts_read : PlanTextIsRead → PlanTextIsWhole → TablesAreRead → WantTextIsRead → SlotTextIsRead
    → AgreeTextIsRead → RequestTextIsRead → LogTextIsRead → HeaderTextIsRead → ScriptTextIsWhole
    → ReadIsWritable → DemoIsAccepted → LiarsAreSpread → SkippedLinesAreUnseen → WorkedAnswers
    → TextsAreRead
texts_read front whole tables wants slots inputs requests logs headers scripts writable demo liars
    skips worked = record {
      plans = λ plan version accepted later most.
          ap (or_refusal in_plan) (whole plan version accepted later most);
      fronts = front;
      tables = λ plan accepted. ap (or_refusal in_table) (tables plan accepted);
      wants = λ want fit. ap (or_refusal (in_part part.Find)) (wants want fit);
      slots = slots;
      inputs = inputs;
      requests = requests;
      logs = logs;
      headers = headers;
      scripts = script_inputs_read front scripts writable slots inputs requests logs;
      only =
          only_texts (script_inputs_read front scripts writable slots inputs requests logs)
          writable;
      demo = demo;
      liars = liars;
      skips = skips;
      answered = inputs_are_answered;
      worked = worked;
    }
