-- Worked values of numbers that are drawn.
use Rattle.std.specs.Prelude.{◌≡◌}
use Rattle.attack.specs.Draws.{drawn}

-- the first two numbers of SplitMix64 with seed 0
pub record DrawsAreWorked : Type 0 where
  pub first : drawn 0 0 ≡ 0xe220_a839_7b1d_cdaf
  pub second : drawn 0 1 ≡ 0x6e78_9e6a_a1b9_65f4
