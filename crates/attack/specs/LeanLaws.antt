-- What is written in the place of the best attack locks no sooner.
use Rattle.std.specs.Prelude.{ℕ}
use Rattle.state_codec.specs.Shapes.{Shape}
use Rattle.machines.specs.Machines.{Machine}
use Rattle.attack.specs.Targets.{IsTarget}
use Rattle.attack.specs.SearchLaws.{IsNoLater, IsPlayed}
use Rattle.attack.specs.Lean.{finished}
use Rattle.attack.specs.declared.searching.Best.{Best}

-- An attack was played, and locks no sooner than another one.
pub record IsAsLate (machine : Machine) (shape : Shape) (first_line : ℕ) (best lean : Best)
    : Type 0 where
  pub played : IsPlayed machine shape first_line lean.attack lean.lock
  pub no_sooner : IsNoLater best.lock lean.lock

-- So it is with what is made of an attack that was played, by taking out lies and by showing more.
abbrev pub LeanIsAsLate : Type 0
LeanIsAsLate = (machine : Machine) (shape : Shape) (first_line : ℕ) (best : Best)
    → IsTarget machine shape first_line
    → IsPlayed machine shape first_line best.attack best.lock
    → IsAsLate machine shape first_line best (finished machine shape first_line best)
