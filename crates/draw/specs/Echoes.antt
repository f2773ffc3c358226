-- What is said again of bytes that were read.
use Rattle.std.specs.Prelude.{◌≡◌, ℕ, ◌≤◌, List, [], ◌∷◌, ◌++◌, length, take, replicate, Bool, true}
use Rattle.std.specs.Prelude.{◌&&◌, nat_le, codes}
use Rattle.std.specs.List.{All, filter}

-- a letter, digit or sign of ASCII, or a space
abbrev pub is_printable : ℕ → Bool
is_printable byte = nat_le 32 byte && nat_le byte 126

-- those that can be printed, and of these at most the first 200
abbrev pub echoed : List ℕ → List ℕ
echoed bytes = take 200 (filter is_printable bytes)

-- whatever was read, what is said again of it is short, and can be printed
abbrev pub EchoesArePlain : Type 0
EchoesArePlain = (bytes : List ℕ)
    → (length (echoed bytes) ≤ 200) × All (λ byte. is_printable byte ≡ true) (echoed bytes)

-- a line that has the bytes of a terminal's red letters, and one that is too long
pub record EchoesAreWorked : Type 0 where
  pub printable : echoed (27 ∷ codes "[31mrefused" ++ 7 ∷ 127 ∷ 195 ∷ 169 ∷ codes " ~" ++ 13 ∷ [])
      ≡ codes "[31mrefused ~"
  pub cut : echoed (replicate 201 65) ≡ replicate 200 65
