-- The lines that the text of a plan and that of its table have in common.
use Rattle.std.specs.Prelude.{ℕ, List, [], ◌∷◌, ◌==◌, if◌then◌else◌, codes, decimal}
use Rattle.std.specs.List.{concat}

-- the first line of a text: what it is, and its version
abbrev pub version_line : (kind : List ℕ) (version : ℕ) → List ℕ
version_line kind version = concat (kind ∷ decimal version ∷ codes "\n" ∷ [])

abbrev pub base_line : ℕ → List ℕ
base_line base = concat (codes "base " ∷ decimal base ∷ codes "\n" ∷ [])

-- the end of a level's line: its spares, which a text of version 1 lacks
abbrev pub spares_end : (version spares : ℕ) → List ℕ
spares_end version spares =
    if version == 1 then codes "\n" else concat (codes " spare " ∷ decimal spares ∷ codes "\n" ∷ [])
