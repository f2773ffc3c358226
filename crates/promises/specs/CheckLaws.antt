-- What the word `check` says of an input of at most 2^44 bytes, by what it answers.
use Rattle.std.specs.Prelude.{◌≡◌, ℕ, ◌^◌, ◌≤◌, List, ◌∷◌, ◌++◌, length, map, Option, Some, Result}
use Rattle.std.specs.Prelude.{Ok, Err}
use Rattle.construction.specs.Runs.{Run}
use Rattle.run_checker.specs.declared.Verdict.{Verdict}
use Rattle.run_checker.specs.declared.Verdict.TheVariants as verdict
use Rattle.run_checker.specs.Certificates.{Turn, Certificate, certificate_text}
use Rattle.run_checker.specs.Grammar.{IsCertificate}
use Rattle.run_checker.specs.Stated.{first_stand, stands_behind, verdict_of}
use Rattle.run_checker.specs.Laws.{IsOf, IsRefusedAt, AreQuiet, stand_after, StretchCounts}
use Rattle.run_checker.specs.Laws.{LastEraLocks}
use Rattle.run_checker.specs.Checks.{unlimited}
use Rattle.outcomes.specs.declared.commands.Command.TheVariants as command
use Rattle.outcomes.specs.CheckAnswers.{verdict_outcome, checked_outcome}
use Rattle.outcomes.specs.Commands.{defined}

-- Each stretch of rounds, after none of which an era begins, is a run of the plan, with the faulty
-- nodes that the stretch begins with.
abbrev pub StretchesRun : Certificate → Type 0
StretchesRun c = (before stretch after : List Turn)
    → c.turns ≡ before ++ (stretch ++ after) → AreQuiet stretch
    → Run c.plan (stand_after c.plan (first_stand c) before).faulty
    (map (λ stand. stand.config) (stand_after c.plan (first_stand c) before
    ∷ stands_behind c.plan (stand_after c.plan (first_stand c) before) stretch))

-- the rows of each such stretch count from the bound on
abbrev pub StretchesCount : Certificate → Type 0
StretchesCount c = (before stretch after : List Turn)
    → c.turns ≡ before ++ (stretch ++ after) → AreQuiet stretch
    → StretchCounts c before stretch

-- The input is the text of a certificate whose rows are those of the run that it states. This is a
-- run of the plan in each of its eras, and the rows count there from the bound on. What is said to
-- be locked is the first locked configuration of the last era, from which on its rows count.
pub record IsTrueText (input : List ℕ) (rows : ℕ) (locked : Option ℕ) : Type 0 where
  pub certificate : Certificate
  pub is : IsCertificate certificate
  pub text : input ≡ certificate_text certificate
  pub comes_to : verdict_of certificate ≡ verdict.True rows locked
  pub runs : StretchesRun certificate
  pub counts : StretchesCount certificate
  pub locks : LastEraLocks certificate locked

-- it is the text of a true certificate, or of one whose first row that differs is this, or no
-- certificate begins with its lines up to this one
abbrev pub Says : List ℕ → Result Verdict ℕ → Type 0
Says input (Ok (verdict.True rows locked)) = IsTrueText input rows locked
Says input (Ok (verdict.False row)) = IsOf input (verdict.False row)
Says input (Err line) = IsRefusedAt input line

-- the outcome is that of an answer, and it is as the answer says
pub record IsJudged (input : List ℕ) : Type 0 where
  pub answer : Result Verdict ℕ
  pub outcome : defined (Some command.Check) input ≡ checked_outcome (unlimited answer)
  pub says : Says input answer

-- Every input that is not too long is judged. The text of every certificate has the outcome of its
-- verdict: none is too long.
pub record CheckIsExact : Type 0 where
  pub inputs : (input : List ℕ) → length input ≤ 2 ^ 44 → IsJudged input
  pub certificates : (c : Certificate) → IsCertificate c
      → defined (Some command.Check) (certificate_text c) ≡ verdict_outcome (verdict_of c)
