-- The answers of the word `check` are exact.
use Rattle.std.proofs.Common.{ℕ, ◌^◌, List, Result, Ok, Err, sym, ap}
use Rattle.run_checker.specs.declared.Verdict.{Verdict}
use Rattle.run_checker.specs.declared.Verdict.TheVariants as verdict
use Rattle.run_checker.specs.Checking.{checked}
use Rattle.run_checker.specs.Laws.{IsAnswer, TextsAreChecked, StretchesAreRuns, TrueRowsCount}
use Rattle.run_checker.specs.Laws.{TrueLocksAreFirst}
use Rattle.run_checker.specs.Checks.{LimitsMatterBeyond}
use Rattle.run_checker.specs.TrueTexts.{ShortTextsAreChecked}
use Rattle.outcomes.specs.CheckAnswers.{checked_outcome}
use Rattle.promises.specs.CheckLaws.{Says, CheckIsExact}

module _ (limits : LimitsMatterBeyond) (texts : TextsAreChecked)
    (certificates : ShortTextsAreChecked)
    (runs : StretchesAreRuns) (counts : TrueRowsCount) (locks : TrueLocksAreFirst) where
  says_by : (input : List ℕ) (answer : Result Verdict ℕ) → IsAnswer input answer → Says input answer
  says_by input (Ok (verdict.True rows locked)) h = record {
    certificate = h.certificate;
    is = h.is;
    text = h.text_is;
    comes_to = sym h.comes_to;
    runs = runs h.certificate h.is;
    counts = counts h.certificate h.is rows locked (sym h.comes_to);
    locks = locks h.certificate h.is rows locked (sym h.comes_to);
  }
  says_by input (Ok (verdict.False row)) h = h
  says_by input (Err line) h = h

  pub check_is_exact : CheckIsExact
  check_is_exact = record {
    inputs = λ input short. record {
      answer = checked input;
      outcome = ap checked_outcome (limits (2 ^ 44) input short);
      says = says_by input (checked input) (texts input);
    };
    certificates = λ c is. ap checked_outcome (certificates c is);
  }
