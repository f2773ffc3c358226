-- What is said of how many of many runs were played.
use Rattle.std.specs.Prelude.{◌≡◌, ◌⊎◌, ◌≤◌, ℕ, Bool, true, false, List, [], ◌∷◌, ◌++◌, All, codes}
use Rattle.std.specs.Prelude.{decimal}
use Rattle.std.specs.List.{concat, flat_map}
use Rattle.std.specs.List.Sorted.{IsStrictlyIncreasing}
use Rattle.texts.specs.Growth.{SinkState, Wrote, Cut}

-- the name of the program whose progress it is, the sink on which that is said, whether it is said,
-- and whether a line stands there
pub record Saying (K : Type 0) : Type 0 where
  pub name : List ℕ
  pub sink : K
  pub is_on : Bool
  pub is_shown : Bool

-- the line that says how many of `count` runs were played, in place of the one before it
abbrev pub progress_line : (name : List ℕ) → (count done : ℕ) → List ℕ
progress_line name count done = concat (
    codes "\r" ∷ name ∷ codes ": " ∷ decimal done
    ∷ codes " of " ∷ decimal count
    ∷ codes " runs" ∷ [])

-- blanks in its place
abbrev pub wiping : List ℕ
wiping = codes "\r                                                                \r"

-- the lines of some numbers of runs, and blanks in place of the last one
abbrev pub progress_text : (name : List ℕ) → (count : ℕ) → (dones : List ℕ) → List ℕ
progress_text name count [] = []
progress_text name count (done ∷ dones) =
    flat_map (progress_line name count) (done ∷ dones) ++ wiping

-- if progress is on, a text was written, or a prefix of it; else nothing was
abbrev pub SaysBy : (is_on : Bool) → (text : List ℕ) → (old new : SinkState) → Type 0
SaysBy true text old new = Wrote text old new ⊎ Cut text old new
SaysBy false text old new = new ≡ old

-- What is said of `count` runs: lines, if any, of rising numbers, each in place of the one before
-- it, and blanks in place of the last one.
pub record Says (name : List ℕ) (is_on : Bool) (count : ℕ) (old new : SinkState) : Type 0 where
  pub dones : List ℕ
  pub rising : IsStrictlyIncreasing dones
  pub among : All (λ done. done ≤ count) dones
  pub said : SaysBy is_on (progress_text name count dones) old new

-- lines that were written if progress is on, those up to a write that failed if it was turned off,
-- and none if it was off before
abbrev pub SaidBy : (was_on is_on : Bool) → (text : List ℕ) → (old new : SinkState) → Type 0
SaidBy true true text old new = Wrote text old new
SaidBy true false text old new = Cut text old new
SaidBy false true text old new = ⊥
SaidBy false false text old new = new ≡ old

-- whether there is a line
abbrev pub has_line : (dones : List ℕ) → Bool
has_line [] = false
has_line (done ∷ dones) = true

-- What was said so far, once `done` of the runs were played.
pub record SaidSoFar {K : Type 0} (told : K → SinkState) (count done : ℕ) (old new : Saying K)
    : Type 0 where
  pub dones : List ℕ
  pub rising : IsStrictlyIncreasing dones
  pub among : All (λ d. d ≤ done) dones
  pub named : new.name ≡ old.name
  pub shown : new.is_shown ≡ has_line dones
  pub said : SaidBy old.is_on new.is_on (flat_map (progress_line old.name count) dones)
      (told old.sink) (told new.sink)
