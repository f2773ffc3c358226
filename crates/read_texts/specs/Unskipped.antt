-- The first line behind a part that is not skipped.
use Rattle.std.specs.Prelude.{◌≡◌, ℕ, ◌+◌, List, ◌∷◌, ◌++◌, length, ◌||◌, not, nat_lt, Bool, true}
use Rattle.std.specs.Prelude.{false, Result, Ok, Err, ◌⊎◌}
use Rattle.std.specs.List.{AllByRecursion}
use Rattle.texts.specs.Parts.{is_skipped, Found, At}

-- a line that may not stand behind a part
abbrev pub stands_out : List ℕ → Bool
stands_out line = nat_lt 4096 (length line) || not (is_skipped line)

-- That is the number of the first such line, if the first line has the other number.
pub record IsFirstUnskipped (number : ℕ) (lines : List (List ℕ)) (n : ℕ) : Type 0 where
  pub front : List (List ℕ)
  pub line : List ℕ
  pub behind : List (List ℕ)
  pub parts : lines ≡ front ++ line ∷ behind
  pub is : n ≡ number + length front
  pub skipped : AllByRecursion (λ l. stands_out l ≡ false) front
  pub stands : stands_out line ≡ true

-- a part was read, and that line behind it is refused
pub record IsFollowed {V R : Type 0} (form : R) (first : ℕ) (part : Result (Found V) (At R))
    (at : At R) : Type 0 where
  pub found : Found V
  pub is : part ≡ Ok found
  pub line : IsFirstUnskipped (first + found.taken) found.behind at.line
  pub rule : at.rule ≡ form

-- what is refused that is to be one part alone: a line of the part, or the first that stands out
-- behind it
abbrev pub IsRefusedAlone : {V R : Type 0} → (form : R) → (first : ℕ)
    → (part : Result (Found V) (At R)) → At R → Type 0
IsRefusedAlone form first part at = (part ≡ Err at) ⊎ IsFollowed form first part at
