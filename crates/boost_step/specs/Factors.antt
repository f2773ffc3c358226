-- The factor of a divisor.
use Rattle.std.specs.Prelude.{ℕ, ◌/◌, ◌+◌}

-- 2 ^ 32 / d, rounded up
abbrev pub factor_of : (d : ℕ) → ℕ
factor_of d = 4294967295 / d + 1
