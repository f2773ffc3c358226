-- What a plan keeps: the numbers of accepted levels, and room for all that may come.
use Rattle.std.specs.Prelude.{◌≡◌, ℕ, ◌^◌, ◌≤◌, List, length}
use Rattle.plan_numbers.specs.declared.numbers.Below.{Below}
use Rattle.plan_numbers.specs.declared.numbers.LevelNums.{LevelNums}
use Rattle.plan_numbers.specs.Numbers.{below_of, numbers_of, levels_in}
use Rattle.plan_numbers.specs.Premises.{IsAccepted}
use Rattle.plan_numbers.specs.Sizes.{IsSized}

-- the version and the base, the numbers of the levels with the lowest first, what stands below the
-- next level, and for how many levels there is room
pub record IsValidPlan (version base : ℕ) (items : List LevelNums) (top : Below)
    (capacity : ℕ) : Type 0
  where
    pub accepted : IsAccepted (record { version = version; base = base; levels = levels_in items })
    pub numbers : items ≡ numbers_of base (levels_in items)
    pub last : top ≡ below_of base (levels_in items)
    pub sized : IsSized top
    pub deep : 3 ^ length items ≤ top.nodes
    pub room : 5 ≤ capacity
