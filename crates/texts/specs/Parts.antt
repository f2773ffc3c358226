-- A part of a text, which is read line by line.
use Rattle.std.specs.Prelude.{ℕ, ◌+◌, List, [], ◌∷◌, length, Bool, ◌||◌, nat_lt, ◌==◌}
use Rattle.std.specs.Prelude.{if◌then◌else◌, slice_index, Result, Ok, Err}
use Rattle.texts.specs.Lines.{is_well_parted}

-- what a line does to a part of which so much was read: it goes on, the part ends here with its
-- value, or the line is refused
pub data Next (S V R : Type 0) : Type 0 where
  goes : S → Next S V R
  ends : V → Next S V R
  refuses : R → Next S V R

-- it goes on with what is made of a line, or the line is refused
abbrev pub goes_on : {S V R X : Type 0} → (X → S) → Result X R → Next S V R
goes_on make (Ok x) = goes (make x)
goes_on make (Err r) = refuses r

-- an empty line and one that begins with `#`
abbrev pub is_skipped : List ℕ → Bool
is_skipped line = length line == 0 || slice_index line 0 == 35

-- A step over the lines that count, and are well parted. A line that is too long is refused,
-- whatever it begins with.
abbrev pub with_skips : {S V R : Type 0} → (S → List ℕ → Next S V R) → R → S → List ℕ → Next S V R
with_skips step form s line =
    if nat_lt 4096 (length line) then refuses form
    else if is_skipped line then goes s
    else if is_well_parted line then step s line
    else refuses form

-- the value of a part, how many lines it took, and the lines after it
pub record Found (V : Type 0) : Type 0 where
  pub value : V
  pub taken : ℕ
  pub behind : List (List ℕ)

-- a refusal of the line with that number
pub record At (R : Type 0) : Type 0 where
  pub line : ℕ
  pub rule : R

module _ {S V R : Type 0} (step : S → List ℕ → Next S V R) (form : R) where
  -- Reading from a state on, when that many lines were taken and the next has that number. A part
  -- that lacks its end is refused at the line after the last.
  abbrev pub part_from : S → ℕ → ℕ → List (List ℕ) → Result (Found V) (At R)
  part_from s taken number [] = Err (record { line = number; rule = form })
  part_from s taken number (line ∷ lines) = elim (step s line) [
    | goes t ↦ part_from t (taken + 1) (number + 1) lines
    | ends v ↦ Ok (record { value = v; taken = taken + 1; behind = lines })
    | refuses r ↦ Err (record { line = number; rule = r })
  ]
