-- How often a list holds a value, and the values that it holds often. A value is a number, or None
-- for infinity.
use Rattle.std.specs.Prelude.{ℕ, ◌*◌, min, List, [], ◌∷◌, length, map, Bool, nat_lt, nat_eq}
use Rattle.std.specs.Prelude.{count_by, Option, Some, None, unwrap_or, if◌then◌else◌}
use Rattle.std.specs.Option.{option_eq}

-- how many places hold z, which may be infinity
abbrev pub count_of : List (Option ℕ) → Option ℕ → ℕ
count_of values z = count_by (option_eq nat_eq z) values

-- the first finite value that passes a test
abbrev pub first_passing : (ℕ → Bool) → List (Option ℕ) → Option ℕ
first_passing passes [] = None
first_passing passes (None ∷ values) = first_passing passes values
first_passing passes (Some a ∷ values) = if passes a then Some a else first_passing passes values

-- the finite value that more than half of the places hold
abbrev pub majority_of : List (Option ℕ) → Option ℕ
majority_of values =
    first_passing (λ a. nat_lt (length values) (2 * count_of values (Some a))) values

-- the number that more than half of the places hold, or 0 if there is none
abbrev pub majority_or_zero : List ℕ → ℕ
majority_or_zero numbers = unwrap_or (majority_of (map Some numbers)) 0

-- the lesser of a number and one that may be infinite
abbrev pub lesser : ℕ → Option ℕ → Option ℕ
lesser a None = Some a
lesser a (Some b) = Some (min a b)

-- the least finite value that passes a test
abbrev pub least_passing : (ℕ → Bool) → List (Option ℕ) → Option ℕ
least_passing passes [] = None
least_passing passes (None ∷ values) = least_passing passes values
least_passing passes (Some a ∷ values) =
    if passes a then lesser a (least_passing passes values) else least_passing passes values

-- the least finite value that more than f places hold
abbrev pub least_above : ℕ → List (Option ℕ) → Option ℕ
least_above f values = least_passing (λ a. nat_lt f (count_of values (Some a))) values
