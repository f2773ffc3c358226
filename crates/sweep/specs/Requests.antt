-- What the words ask for: `FIRST COUNT`.
use Rattle.std.specs.Prelude.{ℕ, ◌^◌, List, [], ◌∷◌, ◌||◌, nat_le, nat_lt, Option, Some}
use Rattle.std.specs.Prelude.{None}
use Rattle.std.specs.Prelude.{if◌then◌else◌}
use Rattle.texts.specs.Numbers.{number_of}
use Rattle.sweep.specs.NumberRanges.{NumberRange}

-- so many numbers from the first on, if there is one and both have at most 15 digits
abbrev pub numbers_with : (first count : ℕ) → Option NumberRange
numbers_with first count =
    if nat_lt count 1 || nat_le (10 ^ 15) first || nat_le (10 ^ 15) count then None
    else Some (record { first = first; count = count })

-- the same, if each word is a number
abbrev pub numbers_by : (first count : Option ℕ) → Option NumberRange
numbers_by (Some first) (Some count) = numbers_with first count
numbers_by first count = None

abbrev pub request_of : List (List ℕ) → Option NumberRange
request_of [] = None
request_of (word ∷ []) = None
request_of (first ∷ count ∷ []) = numbers_by (number_of first) (number_of count)
request_of (first ∷ count ∷ more ∷ words) = None
