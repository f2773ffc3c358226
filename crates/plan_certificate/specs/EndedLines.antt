-- The first line of a text that ends with a newline.
use Rattle.std.specs.Prelude.{◌≡◌, ℕ, ◌<◌, List, [], ◌∷◌, length}
use Rattle.texts.specs.Lines.{whole_lines}
use Rattle.texts.specs.Words.{open_rest}

-- no line of the text ends with a newline
pub record HasNoLine (text : List ℕ) : Type 0 where
  pub lines : whole_lines text ≡ []
  pub rest : open_rest text ≡ text

-- this line is the first, and this stands after it
pub record HasFirstLine (text line behind : List ℕ) : Type 0 where
  pub lines : whole_lines text ≡ line ∷ whole_lines behind
  pub rest : open_rest text ≡ open_rest behind
  pub shorter : length behind < length text
