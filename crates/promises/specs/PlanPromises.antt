-- What the texts of plans and of tables that are written promise, whatever the input; and that
-- values have texts that are read as them.
use Rattle.std.specs.Prelude.{◌≡◌, ℕ, ◌≤◌, List, Result, Ok, IfOk}
use Rattle.construction.specs.Plans.{Plan}
use Rattle.plan_numbers.specs.Premises.{IsAccepted}
use Rattle.plan_laws.specs.VersionLaws.{in_version, AreSame}
use Rattle.plan_certificate.specs.Tables.{table_text}
use Rattle.plan_reader.specs.PlanTexts.{plan_text, PlanTextIsRead}
use Rattle.plan_finder.specs.declared.wants.Want.{Want}
use Rattle.plan_finder.specs.FindPart.{IsFit}
use Rattle.plan_finder.specs.WantTexts.{want_text}
use Rattle.slot_table.specs.SlotTexts.{SlotTextIsRead}
use Rattle.consensus_layer.specs.AgreeTexts.{AgreeTextIsRead}
use Rattle.firing.specs.RequestTexts.{RequestTextIsRead}
use Rattle.replicated_log.specs.LogTexts.{LogTextIsRead}
use Rattle.node_words.specs.HeaderTexts.{HeaderTextIsRead}
use Rattle.promises.specs.WrittenLines.{text_of_words}
use Rattle.outcomes.specs.declared.refusals.Refusal.{Refusal}
use Rattle.outcomes.specs.declared.commands.Batch.TheVariants as batch
use Rattle.outcomes.specs.Inputs.{plan_alone, tabled_of, wants_of}
use Rattle.outcomes.specs.Answers.{answer_of}
use Rattle.promises.specs.Answered.{InputsAreAnswered}
use Rattle.promises.specs.DemoLaws.{DemoIsAccepted, LiarsAreSpread}
use Rattle.promises.specs.OnlyTexts.{OnlyTextsAreRead}
use Rattle.promises.specs.ScriptInputs.{ScriptInputsAreRead}
use Rattle.promises.specs.Skips.{SkippedLinesAreUnseen}
use Rattle.promises.specs.TableWords.{table_words}
use Rattle.promises.specs.Worked.{WorkedAnswers}

-- What `plan` answers is the plan's table, which has just the lines that are said of it, and is
-- read back as the plan, and what `upgrade` answers its text in version 2, which is read back as a
-- plan of the same counter.
pub record AreTextsOf (tabled upgraded : Result (List ℕ) Refusal) (plan : Plan) : Type 0 where
  pub table : tabled ≡ Ok (table_text plan)
  pub says : table_text plan ≡ text_of_words (table_words plan)
  pub table_read : tabled_of (table_text plan) ≡ Ok plan
  pub text : upgraded ≡ Ok (plan_text 2 plan)
  pub text_read : plan_alone (plan_text 2 plan) ≡ Ok (in_version 2 plan)
  pub same : AreSame plan (in_version 2 plan)

-- it is the table of an accepted plan
pub record IsTableOf (text : List ℕ) (plan : Plan) : Type 0 where
  pub accepted : IsAccepted plan
  pub is : text ≡ table_text plan

-- If an input is a plan, `plan` answers its table and `upgrade` its text in version 2. If `table`
-- answers that an input is the table of a plan, it is.
pub record TextsAreKept : Type 0 where
  pub plans : (input : List ℕ)
      → IfOk (plan_alone input)
      (AreTextsOf (answer_of batch.Plan input) (answer_of batch.Upgrade input))
  pub tables : (input : List ℕ) → IfOk (tabled_of input) (IsTableOf input)

-- Each of these values has a text that is read as it. An accepted plan has one in its own version
-- and in each later one, and a table; wants, slot tables, inputs to agree on, requests to fire,
-- logs and headers of nodes have one. All but those of tables and of wants are read so at the
-- beginning of any text, too. A script has one after the text of its plan, and after that of a
-- part; what `demo` makes of a seed is one. Skipped lines may stand anywhere. What is within the
-- limit is answered. Worked values say how each text and each refusal is spelled.
pub record TextsAreRead : Type 0 where
  pub plans : (plan : Plan) (version : ℕ) → IsAccepted plan → plan.version ≤ version → version ≤ 2
      → plan_alone (plan_text version plan) ≡ Ok (in_version version plan)
  pub fronts : PlanTextIsRead
  pub tables : (plan : Plan) → IsAccepted plan → tabled_of (table_text plan) ≡ Ok plan
  pub wants : (want : Want) → IsFit want → wants_of (want_text want) ≡ Ok want
  pub slots : SlotTextIsRead
  pub inputs : AgreeTextIsRead
  pub requests : RequestTextIsRead
  pub logs : LogTextIsRead
  pub headers : HeaderTextIsRead
  pub scripts : ScriptInputsAreRead
  pub only : OnlyTextsAreRead
  pub demo : DemoIsAccepted
  pub liars : LiarsAreSpread
  pub skips : SkippedLinesAreUnseen
  pub answered : InputsAreAnswered
  pub worked : WorkedAnswers
