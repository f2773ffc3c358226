-- The first number that passes a test, and what is known of it from one number to later ones.
use Rattle.std.proofs.Common.{◌≡◌, ℕ, zero, suc, ◌+◌, ◌<◌, ◌≤◌, inl, inr, Bool, true, false, Option}
use Rattle.std.proofs.Common.{Some, None, refl, sym, ap, subst, ◌∙◌, arith}
use Rattle.std.specs.Prelude.{is_some}
use Rattle.std.proofs.lemmas.Bool.{cases_lt, true≢false}
use Rattle.machine_runner.specs.FirstLocked.{first_of, first_locked}
use Rattle.machine_runner.specs.Laws.{IsUpTo}

-- what is known stays known
pub same_known : (known : Option ℕ) (now : ℕ) → first_of known false now ≡ known
same_known (Some t) now = refl
same_known None now = refl

-- the first number up to n that passes, if one does
abbrev pub IsFirst : (ℕ → Bool) → (n : ℕ) → Option ℕ → Type 0
IsFirst passes n (Some w) = (w ≤ n) × (passes w ≡ true) × ((t : ℕ) → t < w → passes t ≡ false)
IsFirst passes n None = (t : ℕ) → t ≤ n → passes t ≡ false

module _ (passes : ℕ → Bool) where
  at_zero : (b : Bool) → passes 0 ≡ b → IsFirst passes 0 (first_of None b 0)
  at_zero true is = (omega arith, is, λ t lt. absurd (omega (arith, lt)))
  at_zero false is = λ t le. let here : 0 ≡ t = omega (arith, le) in
      subst (λ (t : ℕ). passes t ≡ false) here is

  one_more : (known : Option ℕ) (b : Bool) (n : ℕ) → IsFirst passes n known → passes (suc n) ≡ b
      → IsFirst passes (suc n) (first_of known b (suc n))
  one_more (Some w) b n h is = let le = h.0 in (omega (arith, le), h.1, h.2)
  one_more None true n h is = (omega arith, is, λ t lt. h t (omega (arith, lt)))
  one_more None false n h is = λ t le. elim (cases_lt t (suc n)) [
    | inl before ↦ h t (omega (arith, before))
    | inr from ↦ let here : suc n ≡ t = omega (arith, le, from) in
        subst (λ (t : ℕ). passes t ≡ false) here is
  ]

  pub first_is : (n : ℕ) → IsFirst passes n (first_locked passes n)
  first_is zero = at_zero (passes 0) refl
  first_is (suc n) = one_more (first_locked passes n) (passes (suc n)) n (first_is n) refl

  below : (known : Option ℕ) (t n : ℕ) → t ≤ n → passes t ≡ true → IsFirst passes n known
      → IsUpTo t known
  below None t n le is h = absurd (true≢false (sym is ∙ h t le))
  below (Some w) t n le is h = elim (cases_lt t w) [
    | inl before ↦ absurd (true≢false (sym is ∙ h.2 t before))
    | inr from ↦ record { number = w; is = refl; most = from }
  ]

  -- if a number passes, the first that does is that or an earlier one
  pub first_locked_below : (t n : ℕ) → t ≤ n → passes t ≡ true → IsUpTo t (first_locked passes n)
  first_locked_below t n le is = below (first_locked passes n) t n le is (first_is n)

  -- if none of the numbers after one passes, or one up to it did, nothing new is known later
  pub still_known : (t d : ℕ) (known : Option ℕ) → first_locked passes t ≡ known
      → ((u : ℕ) → t < u → u ≤ t + d → is_some known ≡ false → passes u ≡ false)
      → first_locked passes (t + d) ≡ known
  still_known t zero known is none =
      let here : t + 0 ≡ t = omega arith in
      ap (first_locked passes) here ∙ is
  still_known t (suc d) known is none =
      let step : t + suc d ≡ suc (t + d) = omega arith in
      ap (first_locked passes) step
      ∙ (ap (λ (o : Option ℕ). first_of o (passes (suc (t + d))) (suc (t + d)))
      (still_known t d known is (λ u lo hi. none u lo (omega (arith, hi))))
      ∙ kept known (λ out. none (suc (t + d)) (omega arith) (omega arith) out)) where
        kept : (known : Option ℕ) → (is_some known ≡ false → passes (suc (t + d)) ≡ false)
            → first_of known (passes (suc (t + d))) (suc (t + d)) ≡ known
        kept (Some w) none = refl
        kept None none = ap (λ b. first_of None b (suc (t + d))) (none refl)
            ∙ same_known None (suc (t + d))
