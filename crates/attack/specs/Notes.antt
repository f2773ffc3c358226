-- The line that is said of an attack that was found.
use Rattle.std.specs.Prelude.{ℕ, List, [], ◌∷◌, Option, Some, None, codes, decimal}
use Rattle.std.specs.List.{concat}
use Rattle.attack.specs.declared.finding.Found.{Found}

abbrev pub locked_line : (lock : Option ℕ) → (bound : ℕ) → List ℕ
locked_line (Some lock) bound = concat (
    codes "locked " ∷ decimal lock ∷ codes " of " ∷ decimal bound ∷ codes "\n" ∷ [])
locked_line None bound = concat (codes "locked none of " ∷ decimal bound ∷ codes "\n" ∷ [])

abbrev pub note_line : Found → List ℕ
note_line found = locked_line found.lock found.bound
