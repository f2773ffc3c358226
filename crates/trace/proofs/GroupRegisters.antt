-- A test of the nodes of a group, one after the other.
use Rattle.std.proofs.Common.{◌≡◌, ℕ, ◌+◌, ◌-◌, ◌<◌, ◌≤◌, Bool, true, false, ◌&&◌, [], ◌∷◌, map}
use Rattle.std.proofs.Common.{get_or, refl, sym, ap, ap₂, ◌∙◌, subst, arith}
use Rattle.std.specs.List.{list_all, range_with_len}
use Rattle.std.proofs.lemmas.List.Folds.{list_all_at, list_all-append, list_all-map}
use Rattle.std.proofs.lemmas.List.FromFn.{get_or-range_with_len, length-range_with_len}
use Rattle.std.proofs.lemmas.List.FromFn.{map-range_with_len_more}

module _ (p : ℕ → Bool) (first : ℕ) where
  -- one that fails decides it
  pub one_fails : (n u : ℕ) → first ≤ u → u < first + n → p u ≡ false
      → list_all p (range_with_len first n) ≡ false
  one_fails n u low high fails =
      let inside : u - first < n = omega (arith, low, high) in
      let at : get_or (range_with_len first n) (u - first) 0 ≡ u =
      omega (arith, get_or-range_with_len first n (u - first) 0 inside, low) in
      list_all_at p (range_with_len first n) (u - first) 0
      (omega (arith, inside, length-range_with_len first n)) (ap p at ∙ fails)

  next_passes : (k : ℕ) → list_all p (range_with_len first k) ≡ true → p (first + k) ≡ true
      → list_all p (range_with_len first (k + 1)) ≡ true
  next_passes k h passes =
      let id : ℕ → ℕ = λ x. x in
      sym (list_all-map p id (range_with_len first (k + 1)))
      ∙ (ap (list_all p) (map-range_with_len_more id first k (first + k) refl)
      ∙ (list_all-append p (map id (range_with_len first k)) ((first + k) ∷ [])
      ∙ ap₂ (λ a b. a && b) (list_all-map p id (range_with_len first k) ∙ h)
      (ap (λ b. b && true) passes)))

  -- one more that passes
  pub one_passes : (u : ℕ) → first ≤ u → list_all p (range_with_len first (u - first)) ≡ true
      → p u ≡ true → list_all p (range_with_len first (u + 1 - first)) ≡ true
  one_passes u low h passes =
      let at : first + (u - first) ≡ u = omega (arith, low) in
      let next : u - first + 1 ≡ u + 1 - first = omega (arith, low) in
      subst (λ (k : ℕ). list_all p (range_with_len first k) ≡ true) next
      (next_passes (u - first) h (ap p at ∙ passes))
