-- The least costs are gathered pair by pair.
use Rattle.std.proofs.Common.{◌≡◌, ℕ, ◌+◌, ◌*◌, ◌<◌, ◌≤◌, List, [], ◌∷◌, ◌++◌, refl, sym, ap, ◌∙◌}
use Rattle.std.proofs.Common.{subst, inl, inr, arith}
use Rattle.std.specs.Prelude.{◌⊎◌}
use Rattle.std.specs.List.{Contains}
use Rattle.std.proofs.lemmas.Bool.{cases_lt}
use Rattle.std.proofs.lemmas.List.Elements.{All-push, All-weaker, All-nil, Contains-append_left}
use Rattle.std.proofs.lemmas.List.Elements.{Contains-push}
use Rattle.construction.specs.Plans.{Level, nodes_of, faults_of, bound_of}
use Rattle.plan_finder.specs.declared.pots.Pot.{Pot}
use Rattle.plan_finder.specs.declared.best.Best.{Best}
use Rattle.plan_finder.specs.Steps.{IsPath}
use Rattle.plan_finder.specs.Costs.{Reaches, IsLeastCost, AreLeastCosts}
use Rattle.plan_finder.specs.Best.{levels_in, IsBest, IsPairBefore, AreCostsBefore}
use Rattle.plan_finder.proofs.Rising.{rising_push}
use Rattle.plan_finder.proofs.Sets.{path_sized, path_few}

pub costs_none : (most : ℕ) → AreCostsBefore most 0 0 []
costs_none most = record {
  rising = tt;
  costs = All-nil (IsLeastCost most);
  before = All-nil (λ pot. IsPairBefore 0 0 pot.nodes pot.faults);
  complete =
      λ levels path before. elim before
      [ inl lt ↦ absurd (omega (arith, lt)) | inr at ↦ absurd (omega (arith, at.1)) ];
}

later : (n f m g : ℕ) → IsPairBefore n f m g → IsPairBefore n (f + 1) m g
later n f m g (inl lt) = inl lt
later n f m g (inr (e, lt)) = inr (e, omega (arith, lt))

-- before the next pair means before this one, or at it
at_pair : (n f m g : ℕ) → IsPairBefore n (f + 1) m g → IsPairBefore n f m g ⊎ ((m ≡ n) × (g ≡ f))
at_pair n f m g (inl lt) = inl (inl lt)
at_pair n f m g (inr (e, lt)) = elim (cases_lt g f) [
  | inl less ↦ inl (inr (e, less))
  | inr le ↦ inr (e, omega (arith, le, lt))
]

abbrev pub pot_of : (n f value : ℕ) → Pot
pot_of n f value = record { nodes = n; faults = f; value = value }

same_pot : (n n' f f' value : ℕ) → n ≡ n' → f ≡ f'
    → pot_of n f value ≡ pot_of n' f' value
same_pot n n' f f' value en ef =
    ap (λ x. pot_of x f value) en ∙ ap (λ y. pot_of n' y value) ef

module _ (most n f : ℕ) (pots : List Pot) (are : AreCostsBefore most n f pots) where
  pub costs_skip : ((levels : List Level) → ¬ Reaches most n f levels)
      → AreCostsBefore most n (f + 1) pots
  costs_skip none = record {
    rising = are.rising;
    costs = are.costs;
    before =
        All-weaker (λ pot. IsPairBefore n f pot.nodes pot.faults)
        (λ pot. IsPairBefore n (f + 1) pot.nodes pot.faults)
        (λ pot before. later n f pot.nodes pot.faults before) pots are.before;
    complete =
        λ levels path before. elim (at_pair n f (nodes_of levels) (faults_of levels) before) [
          | inl old ↦ are.complete levels path old
          | inr at ↦ absurd (none levels (record { path = path; nodes = at.0; faults = at.1 }))
        ];
  }

  module _ (best : Best) (is : IsBest (Reaches most n f) best) where
    abbrev pot_at : Pot
    pot_at = record { nodes = n; faults = f; value = best.value }

    at_least : (levels : List Level) → Reaches most n f levels → best.value ≤ bound_of levels
    at_least levels reaches = elim (cases_lt (bound_of levels) best.value) [
      | inl lt ↦ absurd (is.least levels reaches (inl (omega (arith, lt, is.kept.value))))
      | inr le ↦ le
    ]

    pot_least : IsLeastCost most pot_at
    pot_least = record {
      reached = (levels_in best, is.member, sym is.kept.value);
      least = at_least;
    }

    pot_complete : (levels : List Level) → IsPath most levels
        → IsPairBefore n (f + 1) (nodes_of levels) (faults_of levels)
        → (value : ℕ)
        × Contains (pots ++ pot_at ∷ [])
        (record { nodes = nodes_of levels; faults = faults_of levels; value = value })
    pot_complete levels path before =
        elim (at_pair n f (nodes_of levels) (faults_of levels) before) [
          | inl old ↦
              let there = are.complete levels path old in (
                there.0,
                Contains-append_left pots (pot_at ∷ [])
                    (record { nodes = nodes_of levels; faults = faults_of levels; value = there.0 })
                    there.1,
              )
          | inr at ↦
              let same : pot_at
              ≡ record { nodes = nodes_of levels; faults = faults_of levels; value = best.value } =
              same_pot n (nodes_of levels) f (faults_of levels) best.value (sym at.0)
              (sym at.1) in
              (best.value, subst (Contains (pots ++ pot_at ∷ [])) same (Contains-push pots pot_at))
        ]

    pub costs_push : AreCostsBefore most n (f + 1) (pots ++ pot_at ∷ [])
    costs_push = record {
      rising = rising_push pots pot_at are.rising are.before;
      costs = All-push (IsLeastCost most) pots pot_at are.costs pot_least;
      before = All-push (λ pot. IsPairBefore n (f + 1) pot.nodes pot.faults) pots pot_at
          (All-weaker (λ pot. IsPairBefore n f pot.nodes pot.faults)
          (λ pot. IsPairBefore n (f + 1) pot.nodes pot.faults)
          (λ pot before. later n f pot.nodes pot.faults before) pots are.before)
          (inr (refl, omega arith));
      complete = pot_complete;
    }

-- ---- from row to row

next_row : (n width m g : ℕ) → IsPairBefore n width m g → IsPairBefore (n + 1) 0 m g
next_row n width m g (inl lt) = inl (omega (arith, lt))
next_row n width m g (inr (e, lt)) = inl (omega (arith, e))

pub costs_row : (most n width : ℕ) (pots : List Pot) → 1 ≤ most → most < 3 * width
    → AreCostsBefore most n width pots → AreCostsBefore most (n + 1) 0 pots
costs_row most n width pots some wide are = record {
  rising = are.rising;
  costs = are.costs;
  before =
      All-weaker (λ pot. IsPairBefore n width pot.nodes pot.faults)
      (λ pot. IsPairBefore (n + 1) 0 pot.nodes pot.faults)
      (λ pot before. next_row n width pot.nodes pot.faults before) pots are.before;
  complete = λ levels path before.
      let narrow : faults_of levels
      < width = omega
      (arith, path_sized most levels path, path_few most levels some path, wide) in
      elim before [
        | inl lt ↦ elim (cases_lt (nodes_of levels) n) [
          | inl less ↦ are.complete levels path (inl less)
          | inr le ↦ are.complete levels path (inr (omega (arith, le, lt), narrow))
        ]
        | inr at ↦ absurd (omega (arith, at.1))
      ];
}

pub costs_end : (most : ℕ) (pots : List Pot) → 1 ≤ most → AreCostsBefore most (most + 1) 0 pots
    → AreLeastCosts most pots
costs_end most pots some are = record {
  rising = are.rising;
  costs = are.costs;
  complete =
      λ levels path. are.complete levels path (inl (omega (arith, path_few most levels some path)));
}
