-- What is left of a source, and whether its end was met.
use Rattle.std.specs.Prelude.{◌≡◌, ℕ, ◌+◌, ◌<◌, ◌≤◌, length, List, Option, Bool, ◌||◌, ◌==◌, Result}
use Rattle.std.specs.Prelude.{MatchResult}
use Rattle.std.specs.Io.KnownBytes.{Consumes}

-- some bytes at the beginning were read, and those after them are left
pub record LosesFront (old new : Option (List ℕ)) : Type 0 where
  pub front : List ℕ
  pub read : Consumes old new front

-- at most so many bytes at the beginning were read, and those after them are left
pub record LosesWithin (limit : ℕ) (old new : Option (List ℕ)) : Type 0 where
  pub front : List ℕ
  pub read : Consumes old new front
  pub within : length front ≤ limit

-- more bytes than that at the beginning were read, up to 4096 more, and those after them are left
pub record LosesMore (limit : ℕ) (old new : Option (List ℕ)) : Type 0 where
  pub front : List ℕ
  pub read : Consumes old new front
  pub past : limit < length front
  pub soon : length front ≤ limit + 4096

-- The end is met by a read that gives nothing, and stays so. Any other read leaves it as it was.
abbrev pub MeetsEnd : {E : Type 0} → Result ℕ E → (before now : Bool) → Type 0
MeetsEnd result before now =
    MatchResult result (λ n. now ≡ ((n == 0) || before)) (λ _. now ≡ before)
