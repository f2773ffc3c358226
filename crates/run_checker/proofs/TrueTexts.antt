-- Texts that are checked true, and the texts of certificates and of what is recorded.
use Rattle.std.proofs.Common.{◌≡◌, ℕ, ◌+◌, length, Option, Some, None, Ok, refl, sym, ap, subst}
use Rattle.std.proofs.Common.{◌∙◌}
use Rattle.run_checker.specs.declared.Verdict.TheVariants as verdict
use Rattle.run_checker.specs.Certificates.{certificate_text}
use Rattle.run_checker.specs.Stated.{first_difference, locks_at, verdict_by}
use Rattle.run_checker.specs.Recorded.{certificate_of, RecordsAreTrue}
use Rattle.run_checker.specs.Laws.{IsOf, IsAnswer, TextsAreChecked, CertificatesAreChecked}
use Rattle.run_checker.specs.Laws.{StretchesAreRuns, TrueRowsCount}
use Rattle.run_checker.specs.Checks.{unlimited}
use Rattle.run_checker.specs.TrueTexts.{most_bytes, TrueTextsAreTrue, ShortTextsAreChecked}
use Rattle.run_checker.specs.TrueTexts.{RecordsAreCheckedTrue}
use Rattle.run_checker.proofs.ShortTexts.{certificates_are_short}
use Rattle.run_checker.proofs.Unlimited.{limits_matter_beyond}

-- a verdict that is true has no row that differs, and has the number of rows
true_by : (differs : Option ℕ) (count : ℕ) (first : Option ℕ) (rows : ℕ) (locked : Option ℕ)
    → verdict.True rows locked ≡ verdict_by differs count first → (differs ≡ None) × (rows ≡ count)
true_by None count first rows locked e = (refl, cc)
true_by (Some t) count first rows locked e = absurd cc

pub true_texts_are_true : TextsAreChecked → StretchesAreRuns → TrueRowsCount → TrueTextsAreTrue
true_texts_are_true checks runs count text rows locked e =
    let of : IsOf text (verdict.True rows locked) = subst (IsAnswer text) e (checks text) in
    let c = of.certificate in
    let parts = true_by (first_difference c) (length c.turns + 1) (locks_at c) rows locked
    of.comes_to in
    record {
      certificate = c;
      is = of.is;
      text_is = of.text_is;
      rows_are = parts.1;
      shown = parts.0;
      stretches = λ before stretch after cut quiet. record {
        run = runs c of.is before stretch after cut quiet;
        counts = count c of.is rows locked (sym of.comes_to) before stretch after cut quiet;
      };
    }

pub short_texts_are_checked : CertificatesAreChecked → ShortTextsAreChecked
short_texts_are_checked checks c is =
    limits_matter_beyond most_bytes (certificate_text c) (certificates_are_short c is)
    ∙ ap unlimited (checks c is)

pub records_are_checked_true : CertificatesAreChecked → RecordsAreTrue → RecordsAreCheckedTrue
records_are_checked_true checks are_true plan s read eras =
    let record_is = are_true plan s read eras in
    short_texts_are_checked checks (certificate_of plan s) record_is.is
    ∙ ap (λ v. Ok v) record_is.verdict
