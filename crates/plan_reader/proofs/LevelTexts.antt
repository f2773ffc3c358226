-- The texts of the levels of a plan, one after the other, the lowest first. What the text of one
-- level is does not matter.
use Rattle.std.proofs.Common.{◌≡◌, ℕ, ◌+◌, ◌<◌, ◌≤◌, List, [], ◌∷◌, ◌++◌, length, take, map}
use Rattle.std.proofs.Common.{reverse, get_or, Some, refl, sym, ap, ◌∙◌, arith}
use Rattle.std.specs.List.{slice_get, flat_map}
use Rattle.std.proofs.lemmas.List.{take_all, map-append, length-map, length-reverse, get_or-map}
use Rattle.std.proofs.lemmas.Grind.{reverse_onto}
use Rattle.std.proofs.lemmas.Option.{get_or_from_slice_get, slice_get_within}
use Rattle.texts.specs.Growth.{SinkState}
use Rattle.edge_io.specs.Writing.{Writes}
use Rattle.edge_io.specs.declared.writer.Writer.{Writer}
use Rattle.edge_io.proofs.Writing.{writes_at, writes_is}
use Rattle.construction.specs.Plans.{Level, Plan, plan_depth}
use Rattle.plan_numbers.specs.declared.numbers.LevelNums.{LevelNums}
use Rattle.plan_numbers.specs.Numbers.{level_of, numbers_of, numbers_over, below_of, level_numbers}

-- the levels that have the numbers of these, the lowest first
levels_are : (base : ℕ) (levels : List Level)
    → map level_of (numbers_of base levels) ≡ reverse levels
levels_are base [] = refl
levels_are base (level ∷ below) =
    let top = numbers_over (below_of base below) level in
    map-append level_of (numbers_of base below) (top ∷ [])
    ∙ ap (λ ls. ls ++ level ∷ []) (levels_are base below)
    ∙ sym (reverse_onto below level [])

-- the texts of the first i levels
abbrev pub first_texts : (text : Level → List ℕ) → Plan → ℕ → List ℕ
first_texts text plan i = flat_map text (take i (reverse plan.levels))

module _ (text : Level → List ℕ) (plan : Plan) (i : ℕ) (nums : LevelNums)
    (at : slice_get (level_numbers plan) i ≡ Some nums) where
  inside : i < length (level_numbers plan)
  inside = slice_get_within (level_numbers plan) i nums at

  within : i < length (reverse plan.levels)
  within =
      let same = ap length (levels_are plan.base plan.levels) in
      omega (arith, inside, length-map (level_numbers plan) level_of, same)

  here : get_or (reverse plan.levels) i (level_of nums) ≡ level_of nums
  here =
      ap (λ ls. get_or ls i (level_of nums)) (sym (levels_are plan.base plan.levels))
      ∙ get_or-map level_of (level_numbers plan) i nums (level_of nums) inside
      ∙ ap level_of (get_or_from_slice_get (level_numbers plan) i nums nums at)

-- one more is written
pub writes_level : {K : Type 0} {told : K → SinkState} {x y z : Writer K}
    (text : Level → List ℕ) (plan : Plan) (i : ℕ) (nums : LevelNums)
    → slice_get (level_numbers plan) i ≡ Some nums → Writes told (first_texts text plan i) x y
    → Writes told (text (level_of nums)) y z → Writes told (first_texts text plan (i + 1)) x z
writes_level text plan i nums at before one =
    writes_at text (reverse plan.levels) i (level_of nums) (within text plan i nums at) before
    (rw (here text plan i nums at) one)

-- all are written
pub writes_levels : {K : Type 0} {told : K → SinkState} {x y : Writer K}
    (text : Level → List ℕ) (plan : Plan) (i : ℕ) → plan_depth plan ≤ i
    → Writes told (first_texts text plan i) x y
    → Writes told (flat_map text (reverse plan.levels)) x y
writes_levels text plan i all wrote =
    let most : length (reverse plan.levels) ≤ i = omega (arith, length-reverse plan.levels) in
    writes_is (ap (flat_map text) (take_all i (reverse plan.levels) most)) wrote
