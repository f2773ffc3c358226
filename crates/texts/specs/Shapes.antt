-- The shapes of lines.
use Rattle.std.specs.Prelude.{ℕ, zero, suc, List, [], ◌∷◌, Option, Some, None, if◌then◌else◌}
use Rattle.std.specs.Str.{bytes_eq}
use Rattle.texts.specs.Numbers.{number_of}

-- a number before those that follow
abbrev pub onto_numbers : Option ℕ → Option (List ℕ) → Option (List ℕ)
onto_numbers None ns = None
onto_numbers (Some n) None = None
onto_numbers (Some n) (Some ns) = Some (n ∷ ns)

-- so many words, each a number
abbrev pub numbers_of : ℕ → List (List ℕ) → Option (List ℕ)
numbers_of zero [] = Some []
numbers_of zero (w ∷ ws) = None
numbers_of (suc n) [] = None
numbers_of (suc n) (w ∷ ws) = onto_numbers (number_of w) (numbers_of n ws)

-- a key, and so many numbers after it
abbrev pub numbers_after : List ℕ → ℕ → List (List ℕ) → Option (List ℕ)
numbers_after key n [] = None
numbers_after key n (w ∷ ws) = if bytes_eq w key then numbers_of n ws else None

-- all words, each a number
abbrev pub all_numbers : List (List ℕ) → Option (List ℕ)
all_numbers [] = Some []
all_numbers (w ∷ ws) = onto_numbers (number_of w) (all_numbers ws)

-- a key, and all numbers after it
abbrev pub all_numbers_after : List ℕ → List (List ℕ) → Option (List ℕ)
all_numbers_after key [] = None
all_numbers_after key (w ∷ ws) = if bytes_eq w key then all_numbers ws else None
