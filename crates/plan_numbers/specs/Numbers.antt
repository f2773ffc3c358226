-- The numbers of a plan's levels, as the code hands them round.
use Rattle.std.specs.Prelude.{ℕ, ◌+◌, List, [], ◌∷◌, ◌++◌, map, reverse}
use Rattle.construction.specs.Widths.{width}
use Rattle.construction.specs.Plans.{Level, Plan, leaders_of, beat_of, span_of, group_size}
use Rattle.construction.specs.Plans.{nodes_of, faults_of, modulus_of, bound_of, bits_of}
use Rattle.plan_numbers.specs.declared.numbers.Below.{Below}
use Rattle.plan_numbers.specs.declared.numbers.LevelNums.{LevelNums}

-- a level, as its line has it
abbrev pub line : (blocks faults modulus spares : ℕ) → Level
line blocks faults modulus spares =
    record { blocks = blocks; faults = faults; modulus = modulus; spares = spares }

-- a plan with one more level, on top
abbrev pub with_level : Plan → Level → Plan
with_level plan level = record plan { levels = level ∷ plan.levels }

-- what stands below a level that is put on top of these
abbrev pub below_of : ℕ → List Level → Below
below_of base levels =
    record {
      nodes = nodes_of levels;
      faults = faults_of levels;
      modulus = modulus_of base levels;
      bound = bound_of levels;
      bits = bits_of base levels;
    }

-- what stands below a level that is put on top of a plan
abbrev pub numbers_below : Plan → Below
numbers_below plan = below_of plan.base plan.levels

-- the numbers of a level over what stands below it
abbrev pub numbers_over : Below → Level → LevelNums
numbers_over below level = record {
  blocks = level.blocks;
  leaders = leaders_of level;
  nodes = group_size level below.nodes;
  faults = level.faults;
  beat = beat_of level;
  span = span_of level;
  modulus = level.modulus;
  spares = level.spares;
  bound = below.bound + span_of level;
  bits = below.bits + (width (level.modulus + 1) + 1);
}

-- what stands below a level that is put on top of this one
abbrev pub to_below : LevelNums → Below
to_below nums =
    record {
      nodes = nums.nodes;
      faults = nums.faults;
      modulus = nums.modulus;
      bound = nums.bound;
      bits = nums.bits;
    }

-- the numbers of each level, the lowest first
abbrev pub numbers_of : ℕ → List Level → List LevelNums
numbers_of base [] = []
numbers_of base (level ∷ below) =
    numbers_of base below ++ numbers_over (below_of base below) level ∷ []

-- the numbers of each level of a plan, the lowest first
abbrev pub level_numbers : Plan → List LevelNums
level_numbers plan = numbers_of plan.base plan.levels

-- the level that has these numbers
abbrev pub level_of : LevelNums → Level
level_of nums = line nums.blocks nums.faults nums.modulus nums.spares

-- the levels that have these numbers, the top one first
abbrev pub levels_in : List LevelNums → List Level
levels_in items = map level_of (reverse items)
