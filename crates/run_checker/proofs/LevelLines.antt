-- The lines that state the levels, one after the other.
use Rattle.std.proofs.Common.{◌≡◌, ℕ, ◌<◌, List, [], ◌∷◌, ◌++◌, length, take, map}
use Rattle.std.proofs.Common.{reverse, get_or, Some, refl, sym, ap, ◌∙◌, arith}
use Rattle.std.specs.List.{slice_get, flat_map}
use Rattle.std.proofs.lemmas.List.{map-append, length-map, get_or-map}
use Rattle.std.proofs.lemmas.Grind.{reverse_onto}
use Rattle.std.proofs.lemmas.Option.{get_or_from_slice_get, slice_get_within}
use Rattle.construction.specs.Plans.{Level, Plan}
use Rattle.plan_numbers.specs.declared.numbers.LevelNums.{LevelNums}
use Rattle.plan_numbers.specs.Numbers.{level_of, numbers_of, numbers_over, below_of, level_numbers}
use Rattle.run_checker.specs.RunLines.{level_line}

-- the levels that have the numbers of these, the lowest first
levels_are : (base : ℕ) (levels : List Level)
    → map level_of (numbers_of base levels) ≡ reverse levels
levels_are base [] = refl
levels_are base (level ∷ below) =
    let top = numbers_over (below_of base below) level in
    map-append level_of (numbers_of base below) (top ∷ [])
    ∙ ap (λ ls. ls ++ level ∷ []) (levels_are base below)
    ∙ sym (reverse_onto below level [])

-- the lines of the first i levels
abbrev pub first_texts : (version : ℕ) → Plan → ℕ → List ℕ
first_texts version plan i = flat_map (level_line version) (take i (reverse plan.levels))

module _ (plan : Plan) (i : ℕ) (nums : LevelNums)
    (at : slice_get (level_numbers plan) i ≡ Some nums) where
  inside : i < length (level_numbers plan)
  inside = slice_get_within (level_numbers plan) i nums at

  pub within : i < length (reverse plan.levels)
  within =
      let same = ap length (levels_are plan.base plan.levels) in
      omega (arith, inside, length-map (level_numbers plan) level_of, same)

  pub here : get_or (reverse plan.levels) i (level_of nums) ≡ level_of nums
  here =
      ap (λ ls. get_or ls i (level_of nums)) (sym (levels_are plan.base plan.levels))
      ∙ get_or-map level_of (level_numbers plan) i nums (level_of nums) inside
      ∙ ap level_of (get_or_from_slice_get (level_numbers plan) i nums nums at)
