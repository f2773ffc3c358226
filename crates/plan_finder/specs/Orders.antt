-- The order of plans.
use Rattle.std.specs.Prelude.{◌≡◌, ℕ, ◌<◌, List, [], ◌∷◌, ◌++◌, length, ◌⊎◌}
use Rattle.construction.specs.Plans.{Level, Plan, nodes_of, bound_of}

-- lexicographic order
abbrev pub IsLess : List ℕ → List ℕ → Type 0
IsLess xs [] = ⊥
IsLess [] (y ∷ ys) = Unit {0}
IsLess (x ∷ xs) (y ∷ ys) = (x < y) ⊎ ((x ≡ y) × IsLess xs ys)

-- the blocks and faults of each level, the lowest first
abbrev pub steps_of : List Level → List ℕ
steps_of [] = []
steps_of (level ∷ below) = steps_of below ++ (level.blocks ∷ level.faults ∷ [])

-- the moduli, that of the base first
abbrev pub moduli_of : (base : ℕ) → List Level → List ℕ
moduli_of base [] = base ∷ []
moduli_of base (level ∷ below) = moduli_of base below ++ (level.modulus ∷ [])

-- the bound, the nodes, the number of levels, and their steps
abbrev pub rank_of : List Level → List ℕ
rank_of levels = bound_of levels ∷ nodes_of levels ∷ length levels ∷ steps_of levels

-- plans are compared by the rank of their levels, and then by their moduli
abbrev pub IsBefore : Plan → Plan → Type 0
IsBefore plan other =
    IsLess (rank_of plan.levels ++ moduli_of plan.base plan.levels)
    (rank_of other.levels ++ moduli_of other.base other.levels)
