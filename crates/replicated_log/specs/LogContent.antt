-- What a log part says.
use Rattle.std.specs.Prelude.{ℕ, List}

-- how many values there are, how many entries a log keeps, and what each node commands, in turn
pub record LogContent : Type 0 where
  pub values : ℕ
  pub keep : ℕ
  pub commands : List (List ℕ)
