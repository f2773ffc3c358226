-- Stretches of a list that is made node by node.
use Rattle.std.proofs.Common.{◌≡◌, ℕ, zero, suc, ◌+◌, ◌-◌, ◌<◌, ◌≤◌, ◌∷◌, map, take}
use Rattle.std.proofs.Common.{drop, refl, ap, ◌∙◌, arith}
use Rattle.std.specs.List.{range_with_len}
use Rattle.std.proofs.lemmas.List.FromFn.{take-map-range_with_len}

module _ {X : Type 0} (f : ℕ → X) where
  pub drop_range : (k a n : ℕ) → k ≤ n
      → drop k (map f (range_with_len a n)) ≡ map f (range_with_len (a + k) (n - k))
  drop_range zero a n le =
      let e : a ≡ a + 0 = omega arith in
      let d : n ≡ n - 0 = omega arith in
      ap (λ b. map f (range_with_len b n)) e ∙ ap (λ c. map f (range_with_len (a + 0) c)) d
  drop_range (suc k) a zero le = absurd (omega arith)
  drop_range (suc k) a (suc n) le =
      let e : a + 1 + k ≡ a + suc k = omega arith in
      let d : n - k ≡ suc n - suc k = omega arith in
      drop_range k (a + 1) n (omega arith)
      ∙ (ap (λ b. map f (range_with_len b (n - k))) e
      ∙ ap (λ c. map f (range_with_len (a + suc k) c)) d)

  -- so many items from a place on
  pub stretch_of_range : (k a n m : ℕ) → k + m ≤ n
      → take m (drop k (map f (range_with_len a n))) ≡ map f (range_with_len (a + k) m)
  stretch_of_range k a n m le =
      ap (take m) (drop_range k a n (omega (arith, le)))
      ∙ take-map-range_with_len f (a + k) (n - k) m (omega (arith, le))

-- what is the same at each node of a stretch
pub same_range : {X : Type 0} → (f g : ℕ → X) (n a : ℕ)
    → ((i : ℕ) → a ≤ i → i < a + n → f i ≡ g i)
    → map f (range_with_len a n) ≡ map g (range_with_len a n)
same_range f g zero a same = refl
same_range f g (suc n) a same =
    ap (λ y. y ∷ map f (range_with_len (a + 1) n)) (same a (omega arith) (omega arith))
    ∙ ap (λ ys. g a ∷ ys)
    (same_range f g n (a + 1) (λ i le lt. same i (omega arith) (omega arith)))
