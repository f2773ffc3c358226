-- Phases that are gone through, from the first one on: those before a place stand in columns before
-- the last one so far.
use Rattle.std.proofs.Common.{◌≡◌, ℕ, ◌+◌, ◌<◌, ◌≤◌, inl, inr, List, get_or, ap, subst, arith}
use Rattle.std.proofs.lemmas.Bool.{cases_lt}
use Rattle.trace_pictures.specs.declared.traces.KingPhase.{KingPhase}
use Rattle.trace_pictures.specs.TraceLaid.{AreApart}

module _ (reigns : List KingPhase) (k : ℕ) (reign : KingPhase)
    (is : (d : KingPhase) → reign ≡ get_or reigns k d) where
  pub most_more : (column : ℕ) → column ≤ reign.column
      → ((j : ℕ) (d : KingPhase) → j < k → (get_or reigns j d).column ≤ column)
      → (j : ℕ) (d : KingPhase) → j < k + 1 → (get_or reigns j d).column ≤ reign.column
  most_more column up most j d within = elim (cases_lt j k) [
    | inl earlier ↦ omega (arith, most j d earlier, up)
    | inr late ↦
        let same : k ≡ j = omega (arith, late, within) in
        subst (λ m. (get_or reigns m d).column ≤ reign.column) same
        (omega (arith, ap (λ turn. turn.column) (is d)))
  ]

  module _ (column from : ℕ) (at : column ≡ reign.column)
      (early : (j : ℕ) (d : KingPhase) → j < from → (get_or reigns j d).column < column)
      (above : (j : ℕ) (d : KingPhase) → from ≤ j → j < k → AreApart
      (get_or reigns j d) reign) where
    above_this : (i : ℕ) (d : KingPhase) → i < k → AreApart (get_or reigns i d) reign
    above_this i d within = elim (cases_lt i from) [
      | inl before ↦ λ columns _. absurd (omega (arith, early i d before, at, columns))
      | inr behind ↦ above i d behind within
    ]

    -- one phase more, below those of its column and level
    pub apart_more : ((i j : ℕ) (d : KingPhase) → i < j → j < k
        → AreApart (get_or reigns i d) (get_or reigns j d))
        → (i j : ℕ) (d : KingPhase) → i < j → j < k + 1
        → AreApart (get_or reigns i d) (get_or reigns j d)
    apart_more apart i j d less within = elim (cases_lt j k) [
      | inl earlier ↦ apart i j d less earlier
      | inr late ↦
          let same : k ≡ j = omega (arith, late, within) in
          subst (λ m. AreApart (get_or reigns i d) (get_or reigns m d)) same
          (subst (AreApart (get_or reigns i d)) (is d)
          (above_this i d (omega (arith, less, same))))
    ]
