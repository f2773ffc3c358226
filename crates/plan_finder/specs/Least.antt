-- What is found, as functions: the first of all levels that meet a test, and so the plan and the
-- costs. They name the answer; `IsPlanFor` and `AreLeastCosts` say what it is.
use Rattle.std.specs.Prelude.{ℕ, zero, suc, ◌+◌, ◌*◌, ◌/◌, ◌^◌, List, [], ◌∷◌, map, Bool, true}
use Rattle.std.specs.Prelude.{false, ◌&&◌, ◌||◌, ◌==◌, nat_lt, nat_le, if◌then◌else◌, Option, Some}
use Rattle.std.specs.Prelude.{None}
use Rattle.std.specs.Option.{option_map}
use Rattle.std.specs.Int.{div_ceil}
use Rattle.std.specs.List.{flat_map, filter, range_with_len}
use Rattle.construction.specs.Plans.{Level, Plan, nodes_of, faults_of, bound_of}
use Rattle.plan_numbers.specs.Numbers.{line}
use Rattle.plan_finder.specs.declared.pots.Pot.{Pot}
use Rattle.plan_finder.specs.Steps.{cost_of}
use Rattle.plan_finder.specs.Orders.{rank_of}
use Rattle.plan_finder.specs.Building.{plan_with}
use Rattle.plan_finder.specs.FindText.{find_text}

-- lexicographic order, as a test
abbrev pub is_less : List ℕ → List ℕ → Bool
is_less xs [] = false
is_less [] (y ∷ ys) = true
is_less (x ∷ xs) (y ∷ ys) = nat_lt x y || (x == y && is_less xs ys)

-- whether a step is allowed
abbrev pub is_step : (most n f k g : ℕ) → Bool
is_step most n f k g =
    nat_le 3 k
    && (nat_le (k * n) most
    && (nat_lt (3 * g) (k * n)
    && (nat_lt g ((f + 1) * div_ceil k 2) && nat_le (cost_of k g) (2 ^ 40))))

-- whether levels of at most 16 blocks and 85 faults are a path
abbrev pub is_path : (most : ℕ) → List Level → Bool
is_path most [] = true
is_path most (level ∷ below) =
    is_path most below && is_step most (nodes_of below) (faults_of below) level.blocks level.faults

-- levels with one more on top, of each number of blocks and faults
abbrev pub levels_over : List Level → List (List Level)
levels_over below =
    flat_map (λ k. map (λ g. line k g 0 0 ∷ below) (range_with_len 0 86)) (range_with_len 0 17)

-- all levels, so many at most
unfoldable pub all_levels : ℕ → List (List Level)
all_levels zero = [] ∷ []
all_levels (suc depth) = [] ∷ flat_map levels_over (all_levels depth)

abbrev pub first_of : List Level → Option (List Level) → List Level
first_of levels None = levels
first_of levels (Some other) = if is_less (rank_of other) (rank_of levels) then other else levels

abbrev pub least_of : List (List Level) → Option (List Level)
least_of [] = None
least_of (levels ∷ others) = Some (first_of levels (least_of others))

-- the least levels that meet a test; no path has more than five
abbrev pub least_levels : (List Level → Bool) → Option (List Level)
least_levels test = least_of (filter test (all_levels 5))

abbrev pub has_faults : (most f : ℕ) → List Level → Bool
has_faults most f levels = is_path most levels && (faults_of levels == f)

abbrev pub reaches : (most n f : ℕ) → List Level → Bool
reaches most n f levels = is_path most levels && ((nodes_of levels == n) && (faults_of levels == f))

abbrev pub find_plan : (f c most : ℕ) → Option Plan
find_plan f c most = option_map (plan_with c) (least_levels (has_faults most f))

-- the pair, if it is reached, with its least cost
abbrev pub pot_if : (n f : ℕ) → Option (List Level) → List Pot
pot_if n f None = []
pot_if n f (Some levels) = record { nodes = n; faults = f; value = bound_of levels } ∷ []

abbrev pub pots_at : (most n f : ℕ) → List Pot
pots_at most n f = pot_if n f (least_levels (reaches most n f))

-- all pairs, with fewer faults than the width
abbrev pub costs_within : (most width : ℕ) → List Pot
costs_within most width =
    flat_map (λ n. flat_map (pots_at most n) (range_with_len 0 width)) (range_with_len 0 (most + 1))

abbrev pub costs_of : (most : ℕ) → List Pot
costs_of most = costs_within most (most / 3 + 1)

-- the text that is written for wants
abbrev pub found_text : (f c most : ℕ) → List ℕ
found_text f c most = find_text (find_plan f c most) (costs_of most)
