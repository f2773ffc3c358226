use Rattle.std.proofs.Common.{◌≡◌, ℕ, List, refl, ◌^◌, ◌<◌, ◌≤◌, true, length, take, get_or, arith}
use Rattle.std.proofs.Common.{◌∙◌, sym}
use Rattle.std.specs.Char.{is_ascii_digit}
use Rattle.std.specs.List.{list_all}
use Rattle.std.specs.Str.Parse.{digits_value}
use Rattle.std.proofs.lemmas.List.{length-take}
use Rattle.std.proofs.lemmas.List.Folds.{list_all_more}
use Rattle.std.proofs.lemmas.Int.Digits.{digits_value_more}
use Rattle.texts.proofs.Numbers.{value_small, digit_is}
use Rattle.edge_io.proofs.numbers.number.Goals as goal

small : (word : List ℕ) (i value : ℕ) → length word ≤ 15
    → list_all is_ascii_digit (take i word) ≡ true → value ≡ digits_value 10 (take i word)
    → value < 10 ^ 15
small word i value short digits is =
    omega (arith, value_small (take i word) digits (omega (arith, length-take i word)))

pub overflow_mul-value : goal.overflow_mul-value
overflow_mul-value c = omega (
  arith,
  small c.args.word.now c.loop-digit.digit-index c.loop-digit.value (omega arith)
      c.loop-digit.invariant.0 c.loop-digit.invariant.1,
)

pub overflow_add-value : goal.overflow_add-value
overflow_add-value c = omega (
  arith,
  small c.args.word.now c.loop-digit.digit-index c.loop-digit.value (omega arith)
      c.loop-digit.invariant.0 c.loop-digit.invariant.1,
  c.type_inv.word c.loop-digit.digit-index,
)

pub loop-digit-preserved : goal.loop-digit-preserved
loop-digit-preserved c =
    let word = c.args.word.now in
    let i = c.loop-digit.digit-index in
    let digit = get_or word i 0 in
    let is_digit : is_ascii_digit digit ≡ true = sym c.is_ascii_digit.ensures.value
    ∙ c.if-not-is_ascii_digit.false in
    let lt : i < length word = omega arith in (
      rw (list_all_more is_ascii_digit word i 0 lt, c.loop-digit.invariant.0, is_digit) refl,
      omega (
        arith,
        digits_value_more 10 word i lt,
        digit_is digit is_digit,
        c.loop-digit.invariant.1,
        c.from.ensures,
      ),
    )
