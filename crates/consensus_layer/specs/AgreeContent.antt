-- What an agree part says.
use Rattle.std.specs.Prelude.{ℕ, List}

-- how many values there are, and the input of each node
pub record AgreeContent : Type 0 where
  pub values : ℕ
  pub inputs : List ℕ
