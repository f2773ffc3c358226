-- What is built of a plan's numbers is kept of that plan.
use Rattle.std.proofs.Common.{◌≡◌, ℕ, ◌+◌, ◌≤◌, List, [], ◌∷◌, ◌++◌, Some, take, sym, ap, ◌∙◌}
use Rattle.std.proofs.Common.{subst, arith}
use Rattle.std.proofs.lemmas.List.{take_all, take_more}
use Rattle.std.proofs.lemmas.Option.{slice_get_within, get_or_from_slice_get}
use Rattle.std.specs.List.{slice_get}
use Rattle.construction.specs.Plans.{Plan, plan_depth}
use Rattle.plan_numbers.specs.declared.numbers.Below.{Below}
use Rattle.plan_numbers.specs.declared.numbers.LevelNums.{LevelNums}
use Rattle.plan_numbers.specs.Numbers.{numbers_below, level_numbers, levels_in}
use Rattle.plan_numbers.specs.Premises.{IsAccepted}
use Rattle.plan_numbers.proofs.LevelLaws.{levels_in-numbers_of, length-numbers_of}
use Rattle.tower.specs.Kept.{IsValidTower}

-- one more item of a list
pub take_next : {X : Type 0} (xs : List X) (i : ℕ) (x : X) → slice_get xs i ≡ Some x
    → take (i + 1) xs ≡ take i xs ++ x ∷ []
take_next xs i x is =
    take_more xs i x (slice_get_within xs i x is)
    ∙ ap (λ y. take i xs ++ y ∷ []) (get_or_from_slice_get xs i x x is)

module _ (plan : Plan) (version base i : ℕ) (items : List LevelNums)
    (same_version : version ≡ plan.version) (same_base : base ≡ plan.base)
    (all : plan_depth plan ≤ i) (is : items ≡ take i (level_numbers plan)) where
  whole_numbers : items ≡ level_numbers plan
  whole_numbers =
      is
      ∙ take_all i (level_numbers plan) (omega (arith, length-numbers_of plan.base plan.levels))

  -- the numbers are those of the plan's levels
  pub same_plan : record { version = version; base = base; levels = levels_in items } ≡ plan
  same_plan =
      let levels = ap levels_in whole_numbers ∙ levels_in-numbers_of plan.base plan.levels in
      ap (λ v. record { version = v; base = base; levels = levels_in items }) same_version
      ∙ (ap (λ b. record { version = plan.version; base = b; levels = levels_in items }) same_base
      ∙ ap (λ ls. record { version = plan.version; base = plan.base; levels = ls }) levels)

  -- and are kept
  pub kept : (whole : Below) → IsAccepted plan → whole ≡ numbers_below plan
      → IsValidTower version base items whole
  kept whole accepted together = record {
    accepted = subst IsAccepted (sym same_plan) accepted;
    numbers = whole_numbers ∙ ap level_numbers (sym same_plan);
    together = together ∙ ap numbers_below (sym same_plan);
  }
