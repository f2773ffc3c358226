-- What is known of a list of values of which some are still to come.
use Rattle.std.specs.Prelude.{◌≡◌, ℕ, ◌<◌, List, ◌++◌, length, ⊤, Option, Some, None}
use Rattle.counting.specs.Values.{majority_of, least_above}

-- below a value, each number being below infinity
abbrev pub IsBelow : ℕ → Option ℕ → Type 0
IsBelow z None = ⊤
IsBelow z (Some j) = z < j

-- whatever the last values are, the majority is this one
abbrev pub MajorityStays : (more : ℕ) → List (Option ℕ) → (majority : Option ℕ) → Type 0
MajorityStays more values majority =
    (rest : List (Option ℕ)) → length rest ≡ more → majority_of (values ++ rest) ≡ majority

-- whatever the last values are, the least that more than f places hold is this one
abbrev pub LeastStays : (f more : ℕ) → List (Option ℕ) → (least : Option ℕ) → Type 0
LeastStays f more values least =
    (rest : List (Option ℕ)) → length rest ≡ more → least_above f (values ++ rest) ≡ least
