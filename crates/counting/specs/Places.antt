-- How many of the places below n pass a test.
use Rattle.std.specs.Prelude.{ℕ, zero, suc, ◌+◌, Bool, if◌then◌else◌}

abbrev pub places : (ℕ → Bool) → ℕ → ℕ
places p zero = 0
places p (suc n) = places p n + (if p n then 1 else 0)
