-- Lines as words with single spaces between them, and texts as lines that each end with a newline.
use Rattle.std.specs.Prelude.{ℕ, List, [], ◌∷◌, ◌++◌, ◌==◌, if◌then◌else◌}
use Rattle.std.specs.List.{flat_map, join_with_byte}

-- words with single spaces between them
abbrev pub joined : List (List ℕ) → List ℕ
joined words = join_with_byte 32 words

-- a line with its newline
abbrev pub ended : List ℕ → List ℕ
ended line = line ++ 10 ∷ []

-- the text of lines that each end with a newline
abbrev pub text_of : List (List ℕ) → List ℕ
text_of lines = flat_map ended lines

-- what stands after the last newline, if so much was read after the newline before
abbrev pub open_from : List ℕ → List ℕ → List ℕ
open_from line [] = line
open_from line (b ∷ bs) = if b == 10 then open_from [] bs else open_from (line ++ b ∷ []) bs

-- what stands after the last newline of a text: nothing exactly if each line has its newline
abbrev pub open_rest : List ℕ → List ℕ
open_rest text = open_from [] text
