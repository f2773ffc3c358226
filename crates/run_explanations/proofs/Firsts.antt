-- The first number that passes, and the first explanation that is found.
use Rattle.std.proofs.Common.{◌≡◌, ℕ, zero, suc, ◌<◌, ◌≤◌, Bool, true, false, Option, Some, None}
use Rattle.std.proofs.Common.{if◌then◌else◌, refl, sym, ◌∙◌, subst, inl, inr, arith}
use Rattle.std.proofs.lemmas.Bool.{true≢false, cases_lt}
use Rattle.std.proofs.lemmas.Option.{none-some, same_Some}
use Rattle.run_explanations.specs.Searching.{first_or, first_below}

-- ---- numbers

abbrev pub IsFirst : (test : ℕ → Bool) → (n : ℕ) → Option ℕ → Type 0
IsFirst test n (Some x) = (x < n) × (test x ≡ true) × ((y : ℕ) → y < x → test y ≡ false)
IsFirst test n None = (y : ℕ) → y < n → test y ≡ false

module _ (test : ℕ → Bool) where
  one_more : (known : Option ℕ) (n : ℕ) (b : Bool) → test n ≡ b → IsFirst test n known
      → IsFirst test (suc n) (first_or known (if b then Some n else None))
  one_more (Some x) n b e h = let lt = h.0 in (omega (arith, lt), h.1, h.2)
  one_more None n true e h = (omega arith, e, h)
  one_more None n false e h = λ y lt. elim (cases_lt y n) [
    | inl before ↦ h y before
    | inr from ↦ let here : n ≡ y = omega (arith, lt, from) in
        subst (λ (y : ℕ). test y ≡ false) here e
  ]

  pub first_is : (n : ℕ) → IsFirst test n (first_below test n)
  first_is zero = λ y lt. absurd (omega (arith, lt))
  first_is (suc n) = one_more (first_below test n) n (test n) refl (first_is n)

  first_at_most : (known : Option ℕ) (n x : ℕ) → IsFirst test n known → x < n → test x ≡ true
      → (y : ℕ) × (known ≡ Some y) × (y ≤ x)
  first_at_most None n x h lt e = absurd (true≢false (sym e ∙ h x lt))
  first_at_most (Some y) n x h lt e = elim (cases_lt x y) [
    | inl before ↦ absurd (true≢false (sym e ∙ h.2 x before))
    | inr from ↦ (y, refl, from)
  ]

  -- if a number passes, the first one is that or an earlier one
  pub first_known : (n x : ℕ) → x < n → test x ≡ true
      → (y : ℕ) × (first_below test n ≡ Some y) × (y ≤ x)
  first_known n x lt e = first_at_most (first_below test n) n x (first_is n) lt e

-- ---- explanations

-- the first of n options that is known
abbrev pub IsFirstKnown : {X : Type 0} (at : ℕ → Option X) → (n : ℕ) → Option X → Type 0
IsFirstKnown at n (Some e) = (c : ℕ) × (c < n) × (at c ≡ Some e) × ((d : ℕ) → d < c → at d ≡ None)
IsFirstKnown at n None = (d : ℕ) → d < n → at d ≡ None

pub known_more : {X : Type 0} (at : ℕ → Option X) (n : ℕ) (known now : Option X) → at n ≡ now
    → IsFirstKnown at n known → IsFirstKnown at (suc n) (first_or known now)
known_more at n (Some e) now is h = let lt = h.1 in (h.0, omega (arith, lt), h.2, h.3)
known_more at n None (Some e) is h = (n, omega arith, is, h)
known_more at n None None is h = λ d lt. elim (cases_lt d n) [
  | inl before ↦ h d before
  | inr from ↦ let here : n ≡ d = omega (arith, lt, from) in
      subst (λ (d : ℕ). at d ≡ None) here is
]

-- the first one is below n
small_of : (test : ℕ → Bool) (n : ℕ) (known : Option ℕ) (x : ℕ) → IsFirst test n known
    → known ≡ Some x → x < n
small_of test n None x h e = absurd (none-some x e)
small_of test n (Some y) x h e = subst (λ (x : ℕ). x < n) (same_Some y x e) h.0

pub first_small : (test : ℕ → Bool) (n x : ℕ) → first_below test n ≡ Some x → x < n
first_small test n x e = small_of test n (first_below test n) x (first_is test n) e
