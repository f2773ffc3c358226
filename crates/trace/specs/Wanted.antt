-- Which configurations are wanted.
use Rattle.std.specs.Prelude.{ℕ}

-- those from the first to the last
pub record Wanted : Type 0 where
  pub first : ℕ
  pub last : ℕ
