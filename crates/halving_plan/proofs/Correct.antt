-- The correct nodes of a group.
use Rattle.std.proofs.Common.{◌≡◌, ℕ, ◌<◌, Bool, false}

-- a correct node of so many
pub record IsCorrect (n : ℕ) (faulty : ℕ → Bool) (v : ℕ) : Type 0 where
  pub below : v < n
  pub ok : faulty v ≡ false
