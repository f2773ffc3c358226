-- For which counter lines are.
use Rattle.std.specs.Prelude.{◌≡◌, ℕ}
use Rattle.layer_laws.specs.Numbers.{Numbers}
use Rattle.layer_runner.specs.declared.fires.Fires.{Fires}
use Rattle.layer_runner.specs.declared.logged.Logged.{Logged}

-- the length of the slots of which lines are written
abbrev pub fires_length : Fires → ℕ
fires_length fires = fires.length

-- the numbers of a counter
pub record IsLoggedFor (numbers : Numbers) (logged : Logged) : Type 0 where
  pub nodes : logged.nodes ≡ numbers.nodes
  pub faults : logged.faults ≡ numbers.faults
  pub modulus : logged.modulus ≡ numbers.modulus
