-- What the word `record` writes of an input that is a plan and a script.
use Rattle.std.specs.Prelude.{◌≡◌, ℕ, ◌+◌, List, length, Some, IfOk}
use Rattle.construction.specs.Plans.{Plan}
use Rattle.adversary_script.specs.Scripts.{Script}
use Rattle.run_checker.specs.declared.Verdict.{Verdict}
use Rattle.run_checker.specs.declared.Verdict.TheVariants as verdict
use Rattle.run_checker.specs.Certificates.{certificate_text}
use Rattle.run_checker.specs.Grammar.{IsCertificate}
use Rattle.run_checker.specs.Stated.{verdict_of}
use Rattle.run_checker.specs.Recorded.{certificate_of, IsOfRun}
use Rattle.outcomes.specs.declared.commands.Command.TheVariants as command
use Rattle.run_lines.specs.RowTexts.{lock_played}
use Rattle.outcomes.specs.Inputs.{scripted_of}
use Rattle.outcomes.specs.CheckAnswers.{verdict_outcome}
use Rattle.outcomes.specs.Commands.{defined}

-- what the rows of a script's run come to: as many as there are configurations, and the first
-- locked one of the last era
abbrev pub recorded_verdict : Plan → Script → Verdict
recorded_verdict plan script =
    verdict.True (script.rounds + 1) (lock_played plan script (length script.eras))

-- What is written is the text of a run certificate, of the plan and of what is played of the
-- script. It is true, and `check` calls it true.
pub record IsRecorded (plan : Plan) (script : Script) : Type 0 where
  pub is : IsCertificate (certificate_of plan script)
  pub of_run : IsOfRun plan script
  pub comes_to : verdict_of (certificate_of plan script) ≡ recorded_verdict plan script
  pub checks : defined (Some command.Check) (certificate_text (certificate_of plan script))
      ≡ verdict_outcome (recorded_verdict plan script)

-- if an input is a plan and a script, it is recorded
abbrev pub RecordsAreChecked : Type 0
RecordsAreChecked = (input : List ℕ)
    → IfOk (scripted_of input) (λ scripted. IsRecorded scripted.plan scripted.script)
