-- A number after a label.
use Rattle.std.specs.Prelude.{◌≡◌, ℕ, ◌+◌, ◌≤◌, List, ◌++◌, length, take, decimal, slice_set}

pub record Labelled : Type 0 where
  pub label : List ℕ
  pub value : ℕ

-- its text
abbrev pub labelled_text : Labelled → List ℕ
labelled_text n = n.label ++ decimal n.value

-- the bytes up to `end` are the label, which ends at `label`, and the digits of the number
pub record IsText (bytes : List ℕ) (label end value : ℕ) : Type 0 where
  pub size : length bytes ≡ 32
  pub short : label ≤ 12
  pub room : end ≤ 32
  pub text : take end bytes ≡ take label bytes ++ decimal value

-- with this digit at place `last` the bytes are such a text, which ends after it
pub record IsRising (bytes : List ℕ) (label last digit value : ℕ) : Type 0 where
  pub size : length bytes ≡ 32
  pub behind : label ≤ last
  pub text : IsText (slice_set bytes last digit) label (last + 1) value
