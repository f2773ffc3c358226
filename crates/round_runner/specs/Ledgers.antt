-- What a ledger of steps is opened with.
use Rattle.std.specs.Prelude.{◌≡◌, ℕ, ◌<◌}

-- a blank of this name and so many parts is that of the ledger, and has some
pub record IsBlankOf (ledger all named of : ℕ) : Type 0 where
  pub name : named ≡ ledger
  pub parts : of ≡ all
  pub some : 0 < of
