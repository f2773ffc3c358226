-- A word is 1 exactly if its node holds.
use Rattle.std.proofs.Common.{◌≡◌, ℕ, Bool, true, false, cond, get_or, List, Option, Some, None}
use Rattle.std.proofs.Common.{refl, sym, ap, ◌∙◌, arith}
use Rattle.std.specs.Prelude.{nat_eq, codes}
use Rattle.std.specs.Option.{option_eq}
use Rattle.std.proofs.lemmas.Bool.{eqb-true, eq-eqb}
use Rattle.slot_table.specs.declared.lines.SlotLine.{SlotLine}
use Rattle.slot_table.specs.Tables.{Holds, holder_of}
use Rattle.slot_table.specs.HoldWords.{WordsAreExact, OneHolds}
use Rattle.slot_table.proofs.Holders.{holder_holds, holder_is_one}

other_word : codes " ." ≡ codes " 1" → ⊥
other_word e = let second = ap (λ (word : List ℕ). get_or word 1 0) e in omega (arith, second)

-- a word that is 1 is that of the holder
is_holder : (holder : Option ℕ) (v : ℕ) (b : Bool) → option_eq nat_eq holder (Some v) ≡ b
    → cond b (codes " 1") (codes " .") ≡ codes " 1" → holder ≡ Some v
is_holder None v true e is = absurd (cc)
is_holder None v false e is = absurd (other_word is)
is_holder (Some w) v true e is = ap Some (eqb-true w v e)
is_holder (Some w) v false e is = absurd (other_word is)

some_one : (x y : ℕ) → Some x ≡ Some y → x ≡ y
some_one x y e = cc

pub one_holds : OneHolds
one_holds lines output u v one other =
    let holder_u = is_holder (holder_of lines output) u _ refl one in
    let holder_v = is_holder (holder_of lines output) v _ refl other in
    some_one u v (sym holder_u ∙ holder_v)

-- ---- exactly the holder's word is 1

module _ (lines : List SlotLine) (output v : ℕ) where
  abbrev tested : Bool
  tested = option_eq nat_eq (holder_of lines output) (Some v)

  word_of_holder : (holder : Option ℕ) → holder ≡ Some v
      → cond (option_eq nat_eq holder (Some v)) (codes " 1") (codes " .") ≡ codes " 1"
  word_of_holder holder is =
      ap (λ h. cond (option_eq nat_eq h (Some v)) (codes " 1") (codes " .")) is
      ∙ ap (λ b. cond b (codes " 1") (codes " .")) (eq-eqb v v refl)

  holds_by_word : cond tested (codes " 1") (codes " .") ≡ codes " 1" → Holds lines v output
  holds_by_word is = holder_is_one lines v output
      (is_holder (holder_of lines output) v tested refl is)

  dot_by : (b : Bool) → tested ≡ b → (Holds lines v output → ⊥)
      → cond b (codes " 1") (codes " .") ≡ codes " ."
  dot_by true e none = absurd (none (holds_by_word (ap (λ b. cond b (codes " 1") (codes " .")) e)))
  dot_by false e none = refl

pub words_are_exact : WordsAreExact
words_are_exact lines apart output v = record {
  one = (
    holds_by_word lines output v,
    λ h. word_of_holder lines output v (holder_of lines output)
        (holder_holds lines apart v output h),
  );
  dot = dot_by lines output v _ refl;
}
