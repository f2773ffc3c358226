-- A text whose lines all end with a newline, within a limit, with nothing after its last line.
use Rattle.std.specs.Prelude.{ℕ, ◌+◌, List, [], ◌∷◌, length, Bool, true, false, nat_lt}
use Rattle.std.specs.Prelude.{if◌then◌else◌, Option, Result, Ok, Err}
use Rattle.texts.specs.Lines.{lines_of, whole_lines}
use Rattle.texts.specs.Parts.{Next, refuses, Found, At, part_from}
use Rattle.texts.specs.Limits.{Limited, by, beyond, shows, with_limit, room_of, behind_lines}

-- a step over lines of which one that is too long is refused
abbrev pub with_length : {S V R : Type 0} → (S → List ℕ → Next S V R) → R → S → List ℕ → Next S V R
with_length step form s line = if nat_lt 4096 (length line) then refuses form else step s line

-- The lines that count. What stands after the last newline is no line, unless the text is longer
-- than its limit: then its end is not met.
abbrev pub ended_lines : (longer : Bool) → List ℕ → List (List ℕ)
ended_lines true text = lines_of text
ended_lines false text = whole_lines text

-- whether a line that is refused is shown
abbrev pub refused_in : {R : Type 0} → Option ℕ → R → List ℕ → Limited R
refused_in room form line = if shows room line then by form else beyond

-- nothing stands after the last line, or the line that does is refused
abbrev pub alone : {V R : Type 0} → R → (number : ℕ) → Option ℕ → V → List (List ℕ)
    → Result V (At (Limited R))
alone form number room value [] = Ok value
alone form number room value (line ∷ lines) =
    Err (record { line = number; rule = refused_in room form line })

module _ {S V R : Type 0} (step : S → List ℕ → Next S V R) (form : R) where
  -- the part at the beginning of such a text, and then its end
  abbrev pub then_alone : List ℕ → Result (Found (Option ℕ × V)) (At (Limited R))
      → Result V (At (Limited R))
  then_alone text (Ok found) =
      alone form (found.taken + 1) (found.value.0) (found.value.1)
      (lines_of (behind_lines found.taken text))
  then_alone text (Err at) = Err at

  -- such a text, longer than its limit or not
  abbrev pub ended_text : S → (limit : ℕ) → (longer : Bool) → List ℕ → Result V (At (Limited R))
  ended_text start limit longer text =
      then_alone text (part_from (with_limit (with_length step form)) (by form)
      (room_of longer limit, start) 0 1 (ended_lines longer text))
