-- The best of sets of levels: of one set in two forms, and of two sets together.
use Rattle.std.proofs.Common.{◌≡◌, ℕ, suc, ◌+◌, ◌*◌, List, [], ◌∷◌, ◌++◌, length, map, reverse}
use Rattle.std.proofs.Common.{refl, sym, ap, ◌∙◌, subst, inl, inr, arith}
use Rattle.std.specs.Prelude.{◌⊎◌, Option, Some, None}
use Rattle.std.proofs.lemmas.List.{reverse-append, reverse-reverse, length-map, length-reverse}
use Rattle.std.proofs.lemmas.List.{length-take}
use Rattle.construction.specs.Plans.{Level, nodes_of, bound_of}
use Rattle.plan_finder.specs.declared.best.Step.{Step}
use Rattle.plan_finder.specs.declared.best.Best.{Best}
use Rattle.plan_finder.specs.Orders.{IsLess, steps_of, rank_of}
use Rattle.plan_finder.specs.Best.{level_by, levels_by, numbers_by, steps_in, levels_in, rank_in}
use Rattle.plan_finder.specs.Best.{IsValidBest, IsBestOf, IsLesser}
use Rattle.plan_finder.proofs.Orders.{less_then, less_below}

-- ---- the levels of steps

pub levels_by_push : (steps : List Step) (step : Step)
    → levels_by (steps ++ step ∷ []) ≡ level_by step ∷ levels_by steps
levels_by_push steps step = rw (reverse-append steps (step ∷ [])) refl

numbers_by_push : (steps : List Step) (step : Step)
    → numbers_by (steps ++ step ∷ []) ≡ numbers_by steps ++ (step.blocks ∷ step.faults ∷ [])
numbers_by_push [] step = refl
numbers_by_push (first ∷ steps) step =
    ap (λ ns. first.blocks ∷ first.faults ∷ ns) (numbers_by_push steps step)

-- of steps with the top one first
numbers_from_top : (steps : List Step) → steps_of (map level_by steps) ≡ numbers_by (reverse steps)
numbers_from_top [] = refl
numbers_from_top (step ∷ steps) =
    let turned : reverse (step ∷ steps)
    ≡ reverse steps ++ step ∷ [] = reverse-append (step ∷ []) steps in
    ap (λ ns. ns ++ (step.blocks ∷ step.faults ∷ [])) (numbers_from_top steps)
    ∙ (sym (numbers_by_push (reverse steps) step) ∙ ap numbers_by (sym turned))

pub rank_is : (best : Best) → IsValidBest best → rank_in best ≡ rank_of (levels_in best)
rank_is best kept =
    let steps : List Step = steps_in best in
    let deep : best.depth ≡ length (levels_in best) =
    omega (
      arith,
      length-map (reverse steps) level_by,
      length-reverse steps,
      length-take best.depth best.steps,
      kept.room,
      kept.few,
    ) in
    let numbers : numbers_by steps ≡ steps_of (levels_in best) =
    sym (numbers_from_top (reverse steps) ∙ ap numbers_by (reverse-reverse steps)) in
    ap (λ x. x ∷ best.nodes ∷ best.depth ∷ numbers_by steps) kept.value
    ∙ (ap (λ x. bound_of (levels_in best) ∷ x ∷ best.depth ∷ numbers_by steps) kept.nodes
    ∙ (ap (λ x. bound_of (levels_in best) ∷ nodes_of (levels_in best) ∷ x ∷ numbers_by steps) deep
    ∙ ap
    (λ xs. bound_of (levels_in best) ∷ nodes_of (levels_in best) ∷ length (levels_in best) ∷ xs)
    numbers))

-- ---- sets

pub same_set : (P Q : List Level → Type 0) → ((levels : List Level) → P levels → Q levels)
    → ((levels : List Level) → Q levels → P levels) → (cell : Option Best) → IsBestOf P cell
    → IsBestOf Q cell
same_set P Q to from None none = λ other in_q. none other (from other in_q)
same_set P Q to from (Some best) is = record {
  kept = is.kept;
  member = to (levels_in best) is.member;
  least = λ other in_q less. is.least other (from other in_q) less;
}

-- the rest of a set that has P and R
pub together : (P R Q : List Level → Type 0) → ((levels : List Level) → P levels → Q levels)
    → ((levels : List Level) → R levels → Q levels)
    → ((levels : List Level) → Q levels → P levels ⊎ R levels)
    → (known other result : Option Best)
    → IsBestOf P known → IsBestOf R other → IsLesser known other result → IsBestOf Q result
together P R Q left right parts known None result was none same =
    subst (IsBestOf Q) (sym same) (same_set P Q left (λ levels in_q. elim (parts levels in_q) [
      | inl in_p ↦ in_p
      | inr in_r ↦ absurd (none levels in_r)
    ]) known was)
together P R Q left right parts None (Some other) result none is same =
    subst (IsBestOf Q) (sym same) (record {
      kept = is.kept;
      member = right (levels_in other) is.member;
      least = λ more in_q less. elim (parts more in_q) [
        | inl in_p ↦ none more in_p
        | inr in_r ↦ is.least more in_r less
      ];
    })
together P R Q left right parts (Some best) (Some other) result was is (inl (same, less)) =
    let earlier : IsLess (rank_of (levels_in other)) (rank_of (levels_in best)) =
    subst (λ r. IsLess r (rank_of (levels_in best))) (rank_is other is.kept)
    (subst (IsLess (rank_in other)) (rank_is best was.kept) less) in
    subst (IsBestOf Q) (sym same) (record {
      kept = is.kept;
      member = right (levels_in other) is.member;
      least = λ more in_q under. elim (parts more in_q) [
        | inl in_p ↦ was.least more in_p
            (less_then (rank_of more) (rank_of (levels_in other)) (rank_of (levels_in best)) under
            earlier)
        | inr in_r ↦ is.least more in_r under
      ];
    })
together P R Q left right parts (Some best) (Some other) result was is (inr (same, not_less)) =
    let not_earlier : ¬ IsLess (rank_of (levels_in other)) (rank_of (levels_in best)) =
    λ less. not_less
    (subst (λ r. IsLess r (rank_in best)) (sym (rank_is other is.kept))
    (subst (IsLess (rank_of (levels_in other))) (sym (rank_is best was.kept)) less)) in
    subst (IsBestOf Q) (sym same) (record {
      kept = was.kept;
      member = left (levels_in best) was.member;
      least = λ more in_q under. elim (parts more in_q) [
        | inl in_p ↦ was.least more in_p under
        | inr in_r ↦ is.least more in_r
            (less_below (rank_of more) (rank_of (levels_in best)) (rank_of (levels_in other)) under
            not_earlier)
      ];
    })

-- ---- one more level

abbrev ranked : (cost n k g b d : ℕ) → List ℕ → List ℕ
ranked cost n k g b d xs = (b + cost) ∷ (k * n + 0) ∷ suc d ∷ (xs ++ (k ∷ g ∷ []))
