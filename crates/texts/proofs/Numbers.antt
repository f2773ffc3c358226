-- The digits of a number so far.
use Rattle.std.proofs.Common.{◌≡◌, ℕ, ◌-◌, ◌^◌, ◌<◌, ◌≤◌, true, List, length, arith, rules}
use Rattle.std.specs.List.{list_all}
use Rattle.std.specs.Char.{is_ascii_digit, digit_value}
use Rattle.std.specs.Str.Parse.{digits_value}
use Rattle.std.proofs.lemmas.Bool.Decides.{nat_tests}
use Rattle.std.proofs.lemmas.Str.Parse.{IsDigitsTest, IsNumeralModel, numerals_by_value}
use Rattle.std.proofs.lemmas.Str.Parse.{digits_value_short}

-- each byte is a digit
abbrev pub AllAsciiDigits : List ℕ → Type 0
AllAsciiDigits ds = list_all is_ascii_digit ds ≡ true

-- the test of digits is one
tells : IsDigitsTest AllAsciiDigits
tells = search rules

-- a word of digits is a numeral of its value
pub own : IsNumeralModel AllAsciiDigits (digits_value 10)
own = numerals_by_value _ tells

-- 15 digits at most have a value below 10 ^ 15
pub value_small : (ds : List ℕ) → list_all is_ascii_digit ds ≡ true → length ds ≤ 15
    → digits_value 10 ds < 10 ^ 15
value_small ds h short = digits_value_short own ds 15 h short

-- the value of one digit
pub digit_is : (c : ℕ) → is_ascii_digit c ≡ true → digit_value c ≡ c - 48
digit_is c h = grind (arith, nat_tests)
