-- What follows if one fault was counted.
use Rattle.std.proofs.Common.{◌≡◌, ℕ, arith}
use Rattle.texts.specs.Causes.{Counted, Rose}

-- it rose, or stands at its last value
pub rose : (before now : ℕ) → Counted before now → Rose before now
rose before now counted = let once = counted.once in omega (arith, once)

-- a count that stays at 0 counted no fault
pub never_counted : Counted 0 0 → ⊥
never_counted counted = let once : 0 ≡ 1 = counted.once in omega (arith, once)
