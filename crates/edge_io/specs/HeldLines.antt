-- A line at the beginning of bytes.
use Rattle.std.specs.Prelude.{◌≡◌, ℕ, ◌+◌, ◌≤◌, List, [], ◌∷◌, ◌++◌, length, take, true}
use Rattle.texts.specs.Lines.{is_one_line}

-- a line stands at the beginning of bytes, with its newline so many of them and at most so many
pub record IsLineOf (bytes : List ℕ) (most : ℕ) (found : List ℕ) (count : ℕ) : Type 0 where
  pub within : count ≤ length bytes
  pub few : count ≤ most
  pub size : count ≡ length found + 1
  pub front : take count bytes ≡ found ++ 10 ∷ []
  pub one : is_one_line found ≡ true
