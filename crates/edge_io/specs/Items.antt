-- The lines and words that an iterator has left.
use Rattle.std.specs.Prelude.{ℕ, ◌+◌, List, [], ◌∷◌, Option, Some, None}
use Rattle.std.specs.Borrow.{Bor}
use Rattle.texts.specs.Lines.{words_of}

-- the words of what stands after the last space, if there is one
abbrev pub words_left : Option (Bor (List ℕ)) → List (List ℕ)
words_left None = []
words_left (Some rest) = words_of rest.now

-- lines with their numbers
abbrev pub numbered : ℕ → List (List ℕ) → List (ℕ × List ℕ)
numbered n [] = []
numbered n (line ∷ lines) = (n, line) ∷ numbered (n + 1) lines

-- what a pair of a number and a line shows
abbrev pub line_item : ℕ × Bor (List ℕ) → ℕ × List ℕ
line_item item = (item.0, item.1.now)
