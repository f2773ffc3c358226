-- The lines of a plan's text whose numbers have at most 15 digits, and the numbers that are read of
-- them.
use Rattle.std.proofs.Common.{◌≡◌, ℕ, ◌^◌, ◌<◌, ◌≤◌, List, [], ◌∷◌, Some, None, refl, ap, ◌∙◌}
use Rattle.std.proofs.Common.{arith}
use Rattle.std.specs.Prelude.{codes, decimal}
use Rattle.texts.specs.Lines.{words_of}
use Rattle.texts.specs.Shapes.{numbers_after}
use Rattle.texts.proofs.NumberLines.{number_plain, number_short, number_read}
use Rattle.texts.proofs.Printed.{joined, IsPlain, ArePlain, spaced_length, words_joined}
use Rattle.construction.specs.Plans.{Level}
use Rattle.plan_reader.specs.PlanPart.{level_quadruple}
use Rattle.plan_reader.proofs.StatedLines.{after_plan, after_base, after_level_1, after_level_2}

-- the numbers of a level have at most 15 digits each
pub record IsShortLevel (level : Level) : Type 0 where
  pub blocks : level.blocks < 10 ^ 15
  pub faults : level.faults < 10 ^ 15
  pub modulus : level.modulus < 10 ^ 15
  pub spares : level.spares < 10 ^ 15

-- the words may be printed
pub plan_plain : (version : ℕ) → version < 10 ^ 15 → ArePlain (codes "plan" ∷ after_plan version)
plan_plain version small =
    (record { some = omega arith; above = refl }, (number_plain version small, tt))

pub base_plain : (base : ℕ) → base < 10 ^ 15 → ArePlain (codes "base" ∷ after_base base)
base_plain base small = (record { some = omega arith; above = refl }, (number_plain base small, tt))

module _ (level : Level) (small : IsShortLevel level) where
  level_plain : IsPlain (codes "level")
  level_plain = record { some = omega arith; above = refl }

  pub plain_1 : ArePlain (codes "level" ∷ after_level_1 level)
  plain_1 = (
    level_plain,
    (
      number_plain level.blocks small.blocks,
      (
        number_plain level.faults small.faults,
        (number_plain level.modulus small.modulus, tt),
      ),
    ),
  )

  pub plain_2 : ArePlain (codes "level" ∷ after_level_2 level)
  plain_2 =
      let spare : IsPlain (codes "spare") = record { some = omega arith; above = refl } in (
        level_plain,
        (
          number_plain level.blocks small.blocks,
          (
            number_plain level.faults small.faults,
            (
              number_plain level.modulus small.modulus,
              (
                spare,
                (number_plain level.spares small.spares, tt),
              ),
            ),
          ),
        ),
      )

  -- and are few
  pub room_1 : spaced_length (codes "level" ∷ after_level_1 level) ≤ 4096
  room_1 = omega (
    arith,
    number_short level.blocks small.blocks,
    number_short level.faults small.faults,
    number_short level.modulus small.modulus,
  )

  pub room_2 : spaced_length (codes "level" ∷ after_level_2 level) ≤ 4096
  room_2 = omega (
    arith,
    number_short level.blocks small.blocks,
    number_short level.faults small.faults,
    number_short level.modulus small.modulus,
    number_short level.spares small.spares,
  )

  -- the numbers of a level are read of its line
  pub quadruple_1 : level.spares ≡ 0
      → level_quadruple 1 (words_of (joined (codes "level" ∷ after_level_1 level)))
      ≡ Some (level.blocks ∷ level.faults ∷ level.modulus ∷ level.spares ∷ [])
  quadruple_1 none =
      ap (level_quadruple 1) (words_joined (codes "level") (after_level_1 level) plain_1)
      ∙ rw (
        number_read level.blocks small.blocks,
        number_read level.faults small.faults,
        number_read level.modulus small.modulus,
        none,
      ) refl

  pub quadruple_2 : level_quadruple 2 (words_of (joined (codes "level" ∷ after_level_2 level)))
      ≡ Some (level.blocks ∷ level.faults ∷ level.modulus ∷ level.spares ∷ [])
  quadruple_2 =
      ap (level_quadruple 2) (words_joined (codes "level") (after_level_2 level) plain_2)
      ∙ rw (
        number_read level.blocks small.blocks,
        number_read level.faults small.faults,
        number_read level.modulus small.modulus,
        number_read level.spares small.spares,
      ) refl

-- the number of a base is read of its line
pub base_numbers : (base : ℕ) → base < 10 ^ 15
    → numbers_after (codes "base") 1 (words_of (joined (codes "base" ∷ after_base base)))
    ≡ Some (base ∷ [])
base_numbers base small =
    let words = words_joined (codes "base") (after_base base) (base_plain base small) in
    ap (numbers_after (codes "base") 1) words
    ∙ rw (number_read base small) refl
