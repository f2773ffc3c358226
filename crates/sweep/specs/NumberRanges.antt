-- Numbers whose keys are played.
use Rattle.std.specs.Prelude.{ℕ}

-- so many, from the first one on
pub record NumberRange : Type 0 where
  pub first : ℕ
  pub count : ℕ
