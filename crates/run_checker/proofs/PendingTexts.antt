-- Bytes that do not show what decides a text are the lines that begin a certificate, and a line
-- that is open.
use Rattle.std.proofs.Common.{◌≡◌, ℕ, ◌+◌, ◌^◌, ◌≤◌, Bool, false, List, [], ◌∷◌, length, Result, Ok}
use Rattle.std.proofs.Common.{Err, refl, sym, ap, ◌∙◌, subst, length-append, arith}
use Rattle.std.proofs.lemmas.Bool.{le-ltb}
use Rattle.std.proofs.lemmas.Grind.{flat_map-append}
use Rattle.texts.specs.Lines.{whole_lines}
use Rattle.texts.specs.Parts.{At}
use Rattle.texts.specs.Limits.{Limited}
use Rattle.texts.specs.Words.{ended, text_of, open_rest}
use Rattle.texts.proofs.Texts.{whole_text}
use Rattle.edge_io.specs.EndedReads.{RefusedOnlyAt}
use Rattle.run_checker.specs.declared.Verdict.{Verdict}
use Rattle.run_checker.specs.Grammar.{AreFirstLines}
use Rattle.run_checker.specs.Checking.{checked}
use Rattle.run_checker.specs.Laws.{IsAnswer, TextsAreChecked}
use Rattle.run_checker.specs.Checks.{Pending, checked_by, unlimited}
use Rattle.run_checker.proofs.ShortTexts.{certificates_are_short}
use Rattle.run_checker.proofs.Unlimited.{limits_matter_beyond}

none_long : {X : Type 0} (xs : List X) → length xs ≡ 0 → xs ≡ []
none_long [] e = refl
none_long (x ∷ xs) e = absurd (omega (arith, e))

text_parts : (text : List ℕ)
    → length text ≡ length (text_of (whole_lines text)) + length (open_rest text)
text_parts text =
    sym (ap length (whole_text text)) ∙ length-append (text_of (whole_lines text)) (open_rest text)

-- the first lines of a certificate are not longer than it is
first_short : (lines : List (List ℕ)) → AreFirstLines lines → length (text_of lines) ≤ 2 ^ 44
first_short lines are =
    let c = are.certificate in
    omega (
      arith,
      certificates_are_short c are.is,
      ap (λ (all : List (List ℕ)). length (text_of all)) are.parts,
      ap length (flat_map-append ended lines are.rest),
      length-append (text_of lines) (text_of are.rest),
    )

module _ (text : List ℕ) where
  answered_short : (answer : Result Verdict ℕ) → IsAnswer text answer
      → RefusedOnlyAt (1 + length (whole_lines text)) tt (unlimited answer)
      → length (text_of (whole_lines text)) ≤ 2 ^ 44
  answered_short (Ok verdict) of only =
      omega (
        arith,
        text_parts text,
        ap length of.text_is,
        certificates_are_short of.certificate of.is,
      )
  answered_short (Err number) at only =
      let last : number ≡ 1 + length (whole_lines text) =
      ap (λ (a : At (Limited (Unit {0}))). a.line) only in
      let none : length at.rest ≡ 0 =
      omega (arith, last, at.is, ap length at.cut, length-append at.front at.rest) in
      let short = first_short at.front at.begins in
      omega (
        arith,
        short,
        ap (λ (lines : List (List ℕ)). length (text_of lines)) at.cut,
        ap length (flat_map-append ended at.front at.rest),
        length-append (text_of at.front) (text_of at.rest),
        ap (λ (lines : List (List ℕ)). length (text_of lines)) (none_long at.rest none),
      )

  -- bytes that do not show what decides are no more than a certificate has, and a line after it
  pub pending_short : TextsAreChecked → (limit : ℕ) → Pending limit text
      → length text ≤ 2 ^ 44 + 4096
  pending_short checks limit pending =
      let fits = pending.room.within in
      let within : length text ≤ limit = omega (arith, fits) in
      let short = le-ltb limit (length text) within in
      let is : checked_by limit false text ≡ unlimited (checked text) =
      sym (ap (λ (b : Bool). checked_by limit b text) short)
      ∙ limits_matter_beyond limit text within in
      let lines = answered_short (checked text) (checks text)
      (subst (RefusedOnlyAt (1 + length (whole_lines text)) tt) is pending.lines) in
      omega (arith, lines, text_parts text, pending.room.short)
