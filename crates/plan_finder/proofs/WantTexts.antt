-- The text of wants is read as these wants.
use Rattle.std.proofs.Common.{◌≡◌, ℕ, ◌^◌, ◌≤◌, List, [], ◌∷◌, ◌++◌, Option, Some}
use Rattle.std.proofs.Common.{Result, Ok, refl, ap, ◌∙◌, append_assoc, arith}
use Rattle.std.proofs.lemmas.List.{append-nil}
use Rattle.std.specs.Prelude.{codes, decimal}
use Rattle.std.proofs.lemmas.Bool.{le-ltb}
use Rattle.texts.specs.Lines.{lines_of, words_of}
use Rattle.texts.specs.Shapes.{numbers_after}
use Rattle.texts.specs.Parts.{goes, with_skips, Found, At, part_from}
use Rattle.texts.proofs.Printed.{joined, IsPlain, ArePlain, spaced_length, counts, words_joined}
use Rattle.texts.proofs.Printed.{goes_behind, ends_there}
use Rattle.sync_types.specs.declared.answers.Rule.{Rule}
use Rattle.sync_types.specs.declared.answers.Rule.TheVariants.{Form}
use Rattle.plan_reader.proofs.StatedLines.{small_plain, small_short, small_read}
use Rattle.plan_finder.specs.declared.wants.Want.{Want}
use Rattle.plan_finder.specs.declared.want_lines.FindStage.{FindStage}
use Rattle.plan_finder.specs.declared.want_lines.FindStage.TheVariants.{Unread, Begun, Wanted}
use Rattle.plan_finder.specs.FindPart.{want_by, goes_with, find_step, want_of, alone, IsFit}
use Rattle.plan_finder.specs.WantTexts.{want_text, WantTextIsRead}

word_plain : IsPlain (codes "find")
    × (IsPlain (codes "want") × (IsPlain (codes "1") × IsPlain (codes "end")))
word_plain = (
  record { some = omega arith; above = refl },
  (
    record { some = omega arith; above = refl },
    (
      record { some = omega arith; above = refl },
      record { some = omega arith; above = refl },
    ),
  ),
)

-- how the part is read on
abbrev read_on : FindStage → (taken number : ℕ) → List ℕ → Result (Found Want) (At Rule)
read_on stage taken number text =
    part_from (with_skips find_step Form) Form stage taken number (lines_of text)

module _ (want : Want) (fit : IsFit want) where
  abbrev numbers : List (List ℕ)
  numbers = decimal want.faults ∷ decimal want.modulus ∷ decimal want.most ∷ []

  faults_small : want.faults ≤ 2 ^ 40
  faults_small = let le = fit.faults in omega arith

  most_small : want.most ≤ 2 ^ 40
  most_small = let le = fit.most in omega arith

  plain : ArePlain (codes "want" ∷ numbers)
  plain = (
    word_plain.1.0,
    (
      small_plain want.faults faults_small,
      (
        small_plain want.modulus fit.most_modulus,
        (small_plain want.most most_small, tt),
      ),
    ),
  )

  room : spaced_length (codes "want" ∷ numbers) ≤ 4096
  room = omega (
    arith,
    small_short want.faults faults_small,
    small_short want.modulus fit.most_modulus,
    small_short want.most most_small,
  )

  numbers_are : numbers_after (codes "want") 3 (words_of (joined (codes "want" ∷ numbers)))
      ≡ Some (want.faults ∷ want.modulus ∷ want.most ∷ [])
  numbers_are =
      ap (numbers_after (codes "want") 3) (words_joined (codes "want") numbers plain)
      ∙ rw (
        small_read want.faults faults_small,
        small_read want.modulus fit.most_modulus,
        small_read want.most most_small,
      ) refl

  wanted : want_by (Some (want.faults ∷ want.modulus ∷ want.most ∷ [])) ≡ Ok want
  wanted = rw (
    le-ltb 85 want.faults fit.faults,
    le-ltb (2 ^ 40) want.modulus fit.most_modulus,
    le-ltb 256 want.most fit.most,
    le-ltb want.modulus 2 fit.least_modulus,
    le-ltb want.most 1 fit.some,
  ) refl

  steps : find_step Begun (joined (codes "want" ∷ numbers)) ≡ goes (Wanted want)
  steps =
      ap (λ (ns : Option (List ℕ)). goes_with (want_by ns)) numbers_are ∙ ap goes_with wanted

  abbrev second : List ℕ
  second = joined (codes "want" ∷ numbers)

  abbrev end : List ℕ
  end = codes "end" ++ 10 ∷ []

  text_is : want_text want ≡ codes "find 1" ++ 10 ∷ (second ++ 10 ∷ end)
  text_is = simp (append_assoc, append-nil)

  is_read : want_of (want_text want) ≡ Ok want
  is_read =
      ap want_of text_is
      ∙ ap alone (
      goes_behind find_step Form (codes "find") (codes "1" ∷ []) (second ++ 10 ∷ end)
      (word_plain.0, (word_plain.1.1.0, tt)) (omega arith) refl Unread 0 1 Begun refl
      ∙ goes_behind find_step Form (codes "want") numbers end plain room
      (counts second (omega arith) refl) Begun 1 2 (Wanted want) steps
      ∙ ends_there find_step Form (codes "end") [] [] (word_plain.1.1.1, tt) (omega arith) refl
      (Wanted want) 2 3 want refl)

pub want_text_is_read : WantTextIsRead
want_text_is_read want fit = is_read want fit
