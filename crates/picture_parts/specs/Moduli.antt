-- What the outputs of a picture count by.
use Rattle.std.specs.Prelude.{◌≡◌, ◌⊎◌, ℕ, ◌-◌, ◌<◌, List, length, All, Option, Some, None}
use Rattle.std.specs.Prelude.{slice_index_or}

-- an output is below the modulus
abbrev pub IsBelow : (modulus : ℕ) → Option ℕ → Type 0
IsBelow modulus None = Unit {0}
IsBelow modulus (Some output) = output < modulus

-- something shows an output
pub record HasOutput {X : Type 0} (shown : X → Option ℕ) (xs : List X) (output : ℕ) : Type 0 where
  pub place : ℕ
  pub inside : place < length xs
  pub is : (d : X) → shown (slice_index_or xs place d) ≡ Some output

-- the least number above all outputs: one more than the largest one, or 0 if there is none
pub record IsModulusOf {X : Type 0} (shown : X → Option ℕ) (xs : List X) (modulus : ℕ)
    : Type 0 where
  pub below : All (λ x. IsBelow modulus (shown x)) xs
  pub reached : (modulus ≡ 0) ⊎ HasOutput shown xs (modulus - 1)
