-- The table text of a plan: its numbers, and those of each level, line by line.
use Rattle.std.specs.Prelude.{ℕ, List, [], ◌∷◌, ◌++◌, codes, decimal}
use Rattle.std.specs.Int.{div_ceil}
use Rattle.std.specs.List.{concat, flat_map, enumerate_from}
use Rattle.construction.specs.Plans.{Plan, plan_nodes, plan_faults, plan_modulus, plan_bound}
use Rattle.construction.specs.Plans.{plan_bits}
use Rattle.plan_numbers.specs.declared.numbers.LevelNums.{LevelNums}
use Rattle.plan_numbers.specs.Numbers.{level_numbers}
use Rattle.plan_reader.specs.TextLines.{version_line, base_line, spares_end}

-- the numbers of a level that stand in each version, with its index
abbrev pub level_front : ℕ → LevelNums → List ℕ
level_front index nums = concat (
    codes "level " ∷ decimal index
    ∷ codes " blocks " ∷ decimal nums.blocks
    ∷ codes " leaders " ∷ decimal nums.leaders
    ∷ codes " nodes " ∷ decimal nums.nodes
    ∷ codes " faults " ∷ decimal nums.faults
    ∷ codes " beat " ∷ decimal nums.beat
    ∷ codes " span " ∷ decimal nums.span
    ∷ codes " modulus " ∷ decimal nums.modulus
    ∷ codes " bound " ∷ decimal nums.bound
    ∷ codes " bits " ∷ decimal nums.bits ∷ [])

-- the line of a level, with its index
abbrev pub level_line : (version : ℕ) → ℕ × LevelNums → List ℕ
level_line version (index, nums) = level_front index nums ++ spares_end version nums.spares

-- the levels, indexed from 1, the lowest first
abbrev pub indexed_levels : Plan → List (ℕ × LevelNums)
indexed_levels plan = enumerate_from 1 (level_numbers plan)

abbrev pub level_lines : Plan → List ℕ
level_lines plan = flat_map (level_line plan.version) (indexed_levels plan)

-- the numbers of the whole plan, with the bytes that a state's bits fill, the last one perhaps in
-- part
abbrev pub plan_line : Plan → List ℕ
plan_line plan = concat (
    codes "plan nodes " ∷ decimal (plan_nodes plan)
    ∷ codes " faults " ∷ decimal (plan_faults plan)
    ∷ codes " modulus " ∷ decimal (plan_modulus plan)
    ∷ codes " bound " ∷ decimal (plan_bound plan)
    ∷ codes " bits " ∷ decimal (plan_bits plan)
    ∷ codes " bytes " ∷ decimal (div_ceil (plan_bits plan) 8)
    ∷ codes "\n" ∷ [])

abbrev pub table_text : Plan → List ℕ
table_text plan = concat (
    version_line (codes "table ") plan.version
    ∷ base_line plan.base
    ∷ level_lines plan
    ∷ plan_line plan
    ∷ codes "end\n" ∷ [])
