-- What the parts that say layers have in common: a first line, numbers within limits.
use Rattle.std.specs.Prelude.{ℕ, nat_lt, Bool, List, [], ◌∷◌, Option, Some, Result, Ok, Err, codes}
use Rattle.std.specs.Prelude.{if◌then◌else◌}
use Rattle.std.specs.Str.{bytes_eq}
use Rattle.texts.specs.Lines.{words_of}
use Rattle.texts.specs.Shapes.{numbers_after}
use Rattle.sync_types.specs.declared.answers.Rule.{Rule}
use Rattle.sync_types.specs.declared.answers.Rule.TheVariants.{Form, Limit, Range, Slot}

-- the first line of a part, if the modulus fits the layer
abbrev pub head_tested : (head : List ℕ) (fits : Bool) → List ℕ → Result Unit Rule
head_tested head fits line =
    if bytes_eq line head then (if fits then Ok tt else Err Slot) else Err Form

-- the one number of a line, from the least to the most
abbrev pub one_within : (least most : ℕ) → Option (List ℕ) → Result ℕ Rule
one_within least most (Some (n ∷ [])) =
    if nat_lt most n then Err Limit else if nat_lt n least then Err Range else Ok n
one_within least most other = Err Form

-- a key, and such a number
abbrev pub number_within : (key : List ℕ) (least most : ℕ) → List ℕ → Result ℕ Rule
number_within key least most line = one_within least most (numbers_after key 1 (words_of line))
