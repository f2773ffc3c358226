-- Words that stand in the lines of runs and of sweeps.
use Rattle.std.specs.Prelude.{ℕ, List, [], ◌∷◌, Option, Some, None, codes, decimal}
use Rattle.std.specs.List.{concat}

-- the line of the bound
abbrev pub bound_line : ℕ → List ℕ
bound_line bound = concat (codes "bound " ∷ decimal bound ∷ codes "\n" ∷ [])

-- where an era begins, if a line says it
abbrev pub era_words : Option ℕ → List ℕ
era_words (Some begin) = concat (codes "era " ∷ decimal begin ∷ codes " " ∷ [])
era_words None = []

-- the first locked configuration, if there is one
abbrev pub locked_words : Option ℕ → List ℕ
locked_words (Some t) = concat (codes "locked " ∷ decimal t ∷ [])
locked_words None = codes "locked none"
