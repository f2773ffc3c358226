-- The lines of a plan's text, as words, and the numbers that are read of them.
use Rattle.std.proofs.Common.{◌≡◌, ℕ, ◌^◌, ◌≤◌, List, [], ◌∷◌, ◌++◌, length, Some, None, refl, ap}
use Rattle.std.proofs.Common.{◌∙◌, append_assoc, arith}
use Rattle.std.specs.Prelude.{codes, decimal}
use Rattle.std.proofs.lemmas.List.{append-nil}
use Rattle.std.proofs.lemmas.Fmt.{length-decimal-le}
use Rattle.texts.specs.Lines.{words_of}
use Rattle.texts.specs.Numbers.{number_of}
use Rattle.texts.specs.Shapes.{numbers_after}
use Rattle.texts.proofs.NumberWords.{printed_is_read}
use Rattle.texts.proofs.Printed.{joined, IsPlain, ArePlain, spaced_length, decimal_is_plain}
use Rattle.texts.proofs.Printed.{words_joined}
use Rattle.construction.specs.Plans.{Level}
use Rattle.plan_numbers.specs.Numbers.{below_of}
use Rattle.plan_numbers.specs.Premises.{first_premise}
use Rattle.plan_numbers.proofs.Accepted.{meets}
use Rattle.plan_reader.specs.PlanPart.{level_quadruple}
use Rattle.plan_reader.specs.TextLines.{version_line, base_line}
use Rattle.plan_reader.specs.PlanTexts.{level_text}

-- a number of a plan may be printed, in 15 digits at most, and is read
pub small_plain : (n : ℕ) → n ≤ 2 ^ 40 → IsPlain (decimal n)
small_plain n le = decimal_is_plain n (omega arith)

pub small_short : (n : ℕ) → n ≤ 2 ^ 40 → length (decimal n) ≤ 15
small_short n le = length-decimal-le 15 n (omega arith) (omega arith) (omega arith)

pub small_read : (n : ℕ) → n ≤ 2 ^ 40 → number_of (decimal n) ≡ Some n
small_read n le = printed_is_read n (omega arith)

-- so are a level's
pub record IsSmall (level : Level) : Type 0 where
  pub blocks : level.blocks ≤ 2 ^ 40
  pub faults : level.faults ≤ 2 ^ 40
  pub modulus : level.modulus ≤ 2 ^ 40
  pub spares : level.spares ≤ 2 ^ 40

pub level_small : (base : ℕ) (below : List Level) (level : Level)
    → first_premise (below_of base below) level ≡ None → IsSmall level
level_small base below level none =
    let met = meets (below_of base below) level none in
    record {
      blocks = omega (arith, met.most_blocks);
      faults = omega (arith, met.most_faults);
      modulus = met.most_modulus;
      spares = omega (arith, met.most_nodes);
    }

-- the words of the lines after their first
abbrev pub after_plan : (version : ℕ) → List (List ℕ)
after_plan version = decimal version ∷ []

abbrev pub after_base : (base : ℕ) → List (List ℕ)
after_base base = decimal base ∷ []

abbrev pub after_level_1 : Level → List (List ℕ)
after_level_1 level = decimal level.blocks ∷ decimal level.faults ∷ decimal level.modulus ∷ []

abbrev pub after_level_2 : Level → List (List ℕ)
after_level_2 level =
    decimal level.blocks ∷ decimal level.faults ∷ decimal level.modulus
    ∷ codes "spare" ∷ decimal level.spares ∷ []

-- each line is its words
pub version_text : (version : ℕ) (rest : List ℕ)
    → version_line (codes "plan ") version ++ rest
    ≡ joined (codes "plan" ∷ after_plan version) ++ 10 ∷ rest
version_text version rest = simp (append_assoc, append-nil)

pub base_text : (base : ℕ) (rest : List ℕ)
    → base_line base ++ rest ≡ joined (codes "base" ∷ after_base base) ++ 10 ∷ rest
base_text base rest = simp (append_assoc, append-nil)

pub text_1 : (level : Level) (rest : List ℕ)
    → level_text 1 level ++ rest ≡ joined (codes "level" ∷ after_level_1 level) ++ 10 ∷ rest
text_1 level rest = simp (append_assoc, append-nil)

pub text_2 : (level : Level) (rest : List ℕ)
    → level_text 2 level ++ rest ≡ joined (codes "level" ∷ after_level_2 level) ++ 10 ∷ rest
text_2 level rest = simp (append_assoc, append-nil)

-- the words may be printed
pub plan_plain : (version : ℕ) → version ≤ 2 ^ 40 → ArePlain (codes "plan" ∷ after_plan version)
plan_plain version small =
    (record { some = omega arith; above = refl }, (small_plain version small, tt))

pub base_plain : (base : ℕ) → base ≤ 2 ^ 40 → ArePlain (codes "base" ∷ after_base base)
base_plain base small = (record { some = omega arith; above = refl }, (small_plain base small, tt))

module _ (level : Level) (small : IsSmall level) where
  level_plain : IsPlain (codes "level")
  level_plain = record { some = omega arith; above = refl }

  pub plain_1 : ArePlain (codes "level" ∷ after_level_1 level)
  plain_1 = (
    level_plain,
    (
      small_plain level.blocks small.blocks,
      (
        small_plain level.faults small.faults,
        (small_plain level.modulus small.modulus, tt),
      ),
    ),
  )

  pub plain_2 : ArePlain (codes "level" ∷ after_level_2 level)
  plain_2 =
      let spare : IsPlain (codes "spare") = record { some = omega arith; above = refl } in (
        level_plain,
        (
          small_plain level.blocks small.blocks,
          (
            small_plain level.faults small.faults,
            (
              small_plain level.modulus small.modulus,
              (
                spare,
                (small_plain level.spares small.spares, tt),
              ),
            ),
          ),
        ),
      )

  -- and are few
  pub room_1 : spaced_length (codes "level" ∷ after_level_1 level) ≤ 4096
  room_1 = omega (
    arith,
    small_short level.blocks small.blocks,
    small_short level.faults small.faults,
    small_short level.modulus small.modulus,
  )

  pub room_2 : spaced_length (codes "level" ∷ after_level_2 level) ≤ 4096
  room_2 = omega (
    arith,
    small_short level.blocks small.blocks,
    small_short level.faults small.faults,
    small_short level.modulus small.modulus,
    small_short level.spares small.spares,
  )

  -- the numbers of a level are read of its line
  pub quadruple_1 : level.spares ≡ 0
      → level_quadruple 1 (words_of (joined (codes "level" ∷ after_level_1 level)))
      ≡ Some (level.blocks ∷ level.faults ∷ level.modulus ∷ level.spares ∷ [])
  quadruple_1 none =
      ap (level_quadruple 1) (words_joined (codes "level") (after_level_1 level) plain_1)
      ∙ rw (
        small_read level.blocks small.blocks,
        small_read level.faults small.faults,
        small_read level.modulus small.modulus,
        none,
      ) refl

  pub quadruple_2 : level_quadruple 2 (words_of (joined (codes "level" ∷ after_level_2 level)))
      ≡ Some (level.blocks ∷ level.faults ∷ level.modulus ∷ level.spares ∷ [])
  quadruple_2 =
      ap (level_quadruple 2) (words_joined (codes "level") (after_level_2 level) plain_2)
      ∙ rw (
        small_read level.blocks small.blocks,
        small_read level.faults small.faults,
        small_read level.modulus small.modulus,
        small_read level.spares small.spares,
      ) refl

-- the number of a base is read of its line
pub base_numbers : (base : ℕ) → base ≤ 2 ^ 40
    → numbers_after (codes "base") 1 (words_of (joined (codes "base" ∷ after_base base)))
    ≡ Some (base ∷ [])
base_numbers base small =
    let words = words_joined (codes "base") (after_base base) (base_plain base small) in
    ap (numbers_after (codes "base") 1) words
    ∙ rw (small_read base small) refl
