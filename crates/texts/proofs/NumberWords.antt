-- A number and its word.
use Rattle.std.proofs.Common.{◌≡◌, ℕ, zero, suc, ◌^◌, ◌<◌, Bool, true, false, not, Some, None, List}
use Rattle.std.proofs.Common.{length, refl, sym, ap, ◌∙◌, arith}
use Rattle.std.specs.Prelude.{decimal, slice_index, nat_le, nat_lt, ◌==◌, ◌&&◌, ◌||◌, if◌then◌else◌}
use Rattle.std.specs.List.{list_all}
use Rattle.std.specs.Char.{is_ascii_digit}
use Rattle.std.specs.Str.Parse.{digits_value}
use Rattle.std.proofs.lemmas.Bool.{lt-ltb, le-leb, ltb-true, leb-true, eqb-true}
use Rattle.std.proofs.lemmas.Bool.Decides.{nat_tests}
use Rattle.std.proofs.lemmas.Fmt.{decimal_digit, decimal_nonempty, length-decimal-le, first_decimal}
use Rattle.std.proofs.lemmas.Fmt.{digits_decimal, digits_value-decimal, decimal-digits_value}
use Rattle.texts.specs.Numbers.{is_number}
use Rattle.texts.specs.NumberWords.{PrintedIsRead, ReadIsPrinted}
use Rattle.texts.proofs.Numbers.{own, value_small}

-- the first digit of a number may be its first
abbrev begins : List ℕ → Bool
begins word = length word == 1 || not (slice_index word 0 == 48)

either_begins : (one : Bool) (first : ℕ) → 48 < first → (one || not (first == 48)) ≡ true
either_begins true first lt = refl
either_begins false first lt = grind (arith, nat_tests)

begins_printed : (n : ℕ) → n < 2 ^ 64 → begins (decimal n) ≡ true
begins_printed zero lt = rw (decimal_digit 0 (omega arith)) refl
begins_printed (suc n) lt =
    let word = decimal (suc n) in
    either_begins (length word == 1) (slice_index word 0) (first_decimal (suc n) (omega arith) lt)

all_four : (a b c d : Bool) → a ≡ true → b ≡ true → c ≡ true → d ≡ true → (a && b && c && d) ≡ true
all_four a b c d p q r s = rw (p, q, r, s) refl

-- the word of a number is one
pub printed_is_number : (n : ℕ) → n < 10 ^ 15 → is_number (decimal n) ≡ true
printed_is_number n lt =
    let fits : n < 2 ^ 64 = omega arith in
    let some = lt-ltb _ _ (decimal_nonempty n fits) in
    let short = le-leb _ _ (length-decimal-le 15 n (omega arith) lt fits) in
    all_four _ _ _ _ some short (digits_decimal own n fits) (begins_printed n fits)

-- the word of a number is read as it
pub printed_is_read : PrintedIsRead
printed_is_read n lt =
    let value = digits_value 10 (decimal n) in
    ap (λ (b : Bool). if b then Some value else None) (printed_is_number n lt)
    ∙ ap Some (digits_value-decimal own n (omega arith))

-- a number that was read passed the test, and is its digits' value
read_by : (b : Bool) (value n : ℕ) → (if b then Some value else None) ≡ Some n
    → (b ≡ true) × (value ≡ n)
read_by true value n e = (refl, cc)
read_by false value n e = absurd cc

alone_or : (one : Bool) (first : ℕ) → (one || not (first == 48)) ≡ true → first ≡ 48 → one ≡ true
alone_or true first h e = refl
alone_or false first h e = absurd (grind (arith, nat_tests))

parts_of : (a b c d : Bool) → (a && b && c && d) ≡ true
    → (a ≡ true) × (b ≡ true) × (c ≡ true) × (d ≡ true)
parts_of true true true true h = (refl, refl, refl, refl)
parts_of false b c d h = absurd cc
parts_of true false c d h = absurd cc
parts_of true true false d h = absurd cc
parts_of true true true false h = absurd cc

-- a word that is read as a number is its word
pub read_is_printed : ReadIsPrinted
read_is_printed word n is =
    let read = read_by (is_number word) (digits_value 10 word) n is in
    let some = nat_lt 0 (length word) in
    let short = nat_le (length word) 15 in
    let tests = parts_of some short (list_all is_ascii_digit word) (begins word) read.0 in
    let small : digits_value 10 word < 10 ^ 15 = value_small word tests.2 (leb-true _ _ tests.1) in
    let alone : slice_index word 0 ≡ 48 → length word ≡ 1 =
    λ none. eqb-true _ _ (alone_or (length word == 1) (slice_index word 0) tests.3 none) in
    let fits : digits_value 10 word < 2 ^ 64 = omega (arith, small) in
    sym (decimal-digits_value own word tests.2 (ltb-true _ _ tests.0) alone fits)
    ∙ ap decimal read.1
