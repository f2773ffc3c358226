-- What the word `record` writes of an input that is a plan and a script is a true certificate.
use Rattle.std.proofs.Common.{◌+◌, length, Result, Ok, Err, ap, ◌∙◌}
use Rattle.std.specs.Prelude.{IfOk}
use Rattle.round_runner.specs.Locks.{era_locked}
use Rattle.round_runner.specs.Played.{played_at}
use Rattle.run_checker.specs.declared.Verdict.TheVariants as verdict
use Rattle.run_checker.specs.Recorded.{certificate_of, RecordsAreTrue, RecordsAreOfRuns}
use Rattle.run_lines.proofs.FirstListed.{first_listed}
use Rattle.outcomes.specs.declared.refusals.Refusal.{Refusal}
use Rattle.outcomes.specs.Inputs.{Scripted, scripted_of}
use Rattle.outcomes.proofs.ScriptedRead.{IsRead, scripted_read}
use Rattle.outcomes.specs.CheckAnswers.{verdict_outcome}
use Rattle.promises.specs.CheckLaws.{CheckIsExact}
use Rattle.promises.specs.RecordLaws.{IsRecorded, RecordsAreChecked}

module _ (check : CheckIsExact) (records : RecordsAreTrue) (runs : RecordsAreOfRuns) where
  recorded : (scripted : Result Scripted Refusal) → IfOk scripted IsRead
      → IfOk scripted (λ s. IsRecorded s.plan s.script)
  recorded (Err refusal) read = tt
  recorded (Ok s) read =
      let true_one = records s.plan s.script read.for read.eras in
      let last = length s.script.eras in
      let same = first_listed (era_locked s.plan s.script (played_at s.plan s.script) last)
      s.script.rounds in
      let comes = true_one.verdict ∙ ap (verdict.True (s.script.rounds + 1)) same in
      record {
        is = true_one.is;
        of_run = runs s.plan s.script read.for;
        comes_to = comes;
        checks =
            check.certificates (certificate_of s.plan s.script) true_one.is
            ∙ ap verdict_outcome comes;
      }

  pub records_are_checked : RecordsAreChecked
  records_are_checked input = recorded (scripted_of input) (scripted_read input)
