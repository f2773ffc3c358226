-- Counts of faults, which stand still at 2 ^ 64 - 1.
use Rattle.std.specs.Prelude.{◌≡◌, ℕ, ◌+◌, ◌-◌, ◌^◌, ◌≤◌, min, Result, MatchResult}

-- the count rose, or stands at its last value
abbrev pub Rose : ℕ → ℕ → Type 0
Rose before now = min (before + 1) (2 ^ 64 - 1) ≤ now

-- one fault was counted, and no other
pub record Counted (before now : ℕ) : Type 0 where
  pub later : before ≤ now
  pub once : now ≡ min (before + 1) (2 ^ 64 - 1)

-- a call that answers Ok leaves the count; one that answers Err counted one fault, which ended it
abbrev pub HasCause : {T E : Type 0} → ℕ → ℕ → Result T E → Type 0
HasCause before now result = MatchResult result (λ _. now ≡ before) (λ _. Counted before now)
