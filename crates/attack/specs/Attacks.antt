-- What an attack is: the script of an adversary, as plain numbers.
use Rattle.std.specs.Prelude.{ℕ, List}
use Rattle.attack.specs.declared.candidates.StartLine.{StartLine}
use Rattle.attack.specs.declared.candidates.LieLine.{LieLine}

-- The ids of the faulty nodes, the number of the noise key, the nodes that start in a state of
-- their own, the lies in their order, how many rounds are played, and the first and the last
-- configuration that is shown.
pub record Attack : Type 0 where
  pub faulty : List ℕ
  pub key : ℕ
  pub starts : List StartLine
  pub lies : List LieLine
  pub rounds : ℕ
  pub first : ℕ
  pub last : ℕ
