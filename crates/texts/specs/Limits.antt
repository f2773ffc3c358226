-- A text that is read line by line, and of which only so many bytes may be read.
use Rattle.std.specs.Prelude.{ℕ, zero, suc, ◌+◌, ◌-◌, ◌^◌, min, List, [], ◌∷◌, length, Bool, true}
use Rattle.std.specs.Prelude.{false}
use Rattle.std.specs.Prelude.{nat_le, nat_lt, ◌==◌, if◌then◌else◌, Option, Some, None}
use Rattle.texts.specs.Parts.{Next, goes, ends, refuses}

-- how many bytes an input that is read whole has at most, and so the header of a node
abbrev pub longest_input : ℕ
longest_input = 2 ^ 20

-- how many bytes show what becomes of a line: all of it and its newline, or one more than a line
-- may have
abbrev pub line_cost : List ℕ → ℕ
line_cost line = min (length line + 1) 4097

-- a rule refuses a line, or the byte after the limit was met before the line was shown
pub data Limited (R : Type 0) : Type 0 where
  by : R → Limited R
  beyond : Limited R

-- whether a line is shown, if so many bytes may still be read; None: no byte is after the limit
abbrev pub shows : Option ℕ → List ℕ → Bool
shows None line = true
shows (Some left) line = nat_le (line_cost line) left

-- how many bytes may be read after a line
abbrev pub less : Option ℕ → List ℕ → Option ℕ
less None line = None
less (Some left) line = Some (left - line_cost line)

-- how many bytes may be read of a text, which has more or not
abbrev pub room_of : (longer : Bool) → ℕ → Option ℕ
room_of true left = Some left
room_of false left = None

-- the room of a text under a limit
abbrev pub room_in : ℕ → List ℕ → Option ℕ
room_in limit text = room_of (nat_lt limit (length text)) limit

-- a step, with the room after it
abbrev pub with_rest : {S V R : Type 0} → Option ℕ → Next S V R
    → Next (Option ℕ × S) (Option ℕ × V) (Limited R)
with_rest room (goes t) = goes (room, t)
with_rest room (ends v) = ends (room, v)
with_rest room (refuses r) = refuses (by r)

-- a step over lines within a limit
abbrev pub with_limit : {S V R : Type 0} → (S → List ℕ → Next S V R) → (Option ℕ × S) → List ℕ
    → Next (Option ℕ × S) (Option ℕ × V) (Limited R)
with_limit step (room, s) line =
    if shows room line then with_rest (less room line) (step s line) else refuses beyond

-- the bytes after so many lines
abbrev pub behind_lines : ℕ → List ℕ → List ℕ
behind_lines zero bytes = bytes
behind_lines (suc n) [] = []
behind_lines (suc n) (b ∷ bs) = if b == 10 then behind_lines n bs else behind_lines (suc n) bs
