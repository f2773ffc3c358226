-- The lines of the levels, one after the other.
use Rattle.std.proofs.Common.{◌≡◌, ℕ, ◌+◌, ◌<◌, ◌≤◌, List, [], ◌∷◌, length, take, get_or, Some}
use Rattle.std.proofs.Common.{refl, ap, ◌∙◌, length-append, arith}
use Rattle.std.specs.List.{slice_get, flat_map}
use Rattle.std.proofs.lemmas.List.{take_all}
use Rattle.std.proofs.lemmas.Option.{get_or_from_slice_get, slice_get_within}
use Rattle.std.proofs.lemmas.List.FromFn.{length-enumerate_from, get_or-enumerate_from}
use Rattle.texts.specs.Growth.{SinkState}
use Rattle.edge_io.specs.Writing.{Writes}
use Rattle.edge_io.specs.declared.writer.Writer.{Writer}
use Rattle.edge_io.proofs.Writing.{writes_at, writes_is}
use Rattle.construction.specs.Plans.{Level, Plan, plan_depth}
use Rattle.plan_numbers.specs.declared.numbers.LevelNums.{LevelNums}
use Rattle.plan_numbers.specs.Numbers.{numbers_of, numbers_over, below_of, level_numbers}
use Rattle.plan_certificate.specs.Tables.{level_line, indexed_levels, level_lines}

length-numbers_of : (base : ℕ) (levels : List Level)
    → length (numbers_of base levels) ≡ length levels
length-numbers_of base [] = refl
length-numbers_of base (level ∷ below) =
    let top = numbers_over (below_of base below) level in
    omega (arith, length-append (numbers_of base below) (top ∷ []), length-numbers_of base below)

length-indexed_levels : (plan : Plan) → length (indexed_levels plan) ≡ plan_depth plan
length-indexed_levels plan =
    length-enumerate_from 1 (level_numbers plan) ∙ length-numbers_of plan.base plan.levels

-- the lines of the first i levels
abbrev pub first_lines : Plan → ℕ → List ℕ
first_lines plan i = flat_map (level_line plan.version) (take i (indexed_levels plan))

module _ (plan : Plan) (i : ℕ) (nums : LevelNums)
    (at : slice_get (level_numbers plan) i ≡ Some nums) where
  inside : i < length (level_numbers plan)
  inside = slice_get_within (level_numbers plan) i nums at

  within : i < length (indexed_levels plan)
  within = omega (arith, length-enumerate_from 1 (level_numbers plan), inside)

  here : get_or (indexed_levels plan) i (0, nums) ≡ (1 + i, nums)
  here =
      get_or-enumerate_from 1 (level_numbers plan) i (0, nums) inside
      ∙ ap (λ (x : LevelNums). (1 + i, x))
      (get_or_from_slice_get (level_numbers plan) i nums nums at)

  -- one more line is written
  pub writes_level : {K : Type 0} {told : K → SinkState} {x y z : Writer K}
      → Writes told (first_lines plan i) x y
      → Writes told (level_line plan.version (1 + i, nums)) y z
      → Writes told (first_lines plan (i + 1)) x z
  writes_level before line =
      writes_at (level_line plan.version) (indexed_levels plan) i (0, nums) within before
      (rw here line)

-- all lines are written
pub writes_levels : {K : Type 0} {told : K → SinkState} {x y : Writer K} (plan : Plan) (i : ℕ)
    → plan_depth plan ≤ i → Writes told (first_lines plan i) x y
    → Writes told (level_lines plan) x y
writes_levels plan i all wrote =
    let most : length (indexed_levels plan) ≤ i = omega (arith, length-indexed_levels plan) in
    writes_is (ap (flat_map (level_line plan.version)) (take_all i (indexed_levels plan) most))
    wrote
