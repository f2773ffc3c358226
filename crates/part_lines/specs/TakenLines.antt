-- The lines that a part takes, and the line at which it is refused.
use Rattle.std.specs.Prelude.{◌≡◌, ℕ, ◌+◌, List, [], ◌∷◌, ◌++◌, length, filter, not, Result}
use Rattle.std.specs.Prelude.{Err}
use Rattle.texts.specs.Parts.{Next, Found, At, is_skipped, part_from}

-- the lines that count
abbrev pub counting : List (List ℕ) → List (List ℕ)
counting lines = filter (λ line. not (is_skipped line)) lines

-- A part took these lines up to those behind it, and what counts of them says it.
pub record Took {V : Type 0} (lines : List (List ℕ)) (found : Found V)
    (Says : List (List ℕ) → Type 0) : Type 0 where
  pub front : List (List ℕ)
  pub parts : lines ≡ front ++ found.behind
  pub many : found.taken ≡ length front
  pub says : Says (counting front)

-- A part is refused at the first of the lines left, whatever follows it; or none is left.
abbrev pub StopsAt : {V R : Type 0} → (part : List (List ℕ) → Result (Found V) (At R)) → (form : R)
    → At R → (front behind : List (List ℕ)) → Type 0
StopsAt part form at front [] = at.rule ≡ form
StopsAt part form at front (line ∷ behind) =
    (more : List (List ℕ)) → part (front ++ line ∷ more) ≡ Err at

-- A part is refused at the first line that fails: the lines before it neither end the part nor are
-- refused, since alone they only lack an end; and with it the part is refused so, whatever follows.
-- A part that lacks its end is refused by `form` at the line after the last.
pub record IsRefusedFirst {V R : Type 0} (part : List (List ℕ) → Result (Found V) (At R)) (form : R)
    (number : ℕ) (lines : List (List ℕ)) (at : At R) : Type 0 where
  pub front : List (List ℕ)
  pub behind : List (List ℕ)
  pub parts : lines ≡ front ++ behind
  pub line : at.line ≡ number + length front
  pub goes : part front ≡ Err (record { line = number + length front; rule = form })
  pub stops : StopsAt part form at front behind

-- so is each part
abbrev pub RefusedLineIsFirst : (S V R : Type 0) → Type 0
RefusedLineIsFirst S V R =
    (step : S → List ℕ → Next S V R) (form : R) (s : S) (taken number : ℕ) (lines : List (List ℕ))
    (at : At R) → part_from step form s taken number lines ≡ Err at
    → IsRefusedFirst (part_from step form s taken number) form number lines at
