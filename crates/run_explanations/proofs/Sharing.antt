-- What numbers have in common.
use Rattle.std.proofs.Common.{◌≡◌, ℕ, zero, suc, ◌<◌, Bool, true, false, if◌then◌else◌, refl, sym}
use Rattle.std.proofs.Common.{ap, ◌∙◌, subst, inl, inr, arith}
use Rattle.std.specs.Prelude.{⊤, nat_eq}
use Rattle.std.proofs.lemmas.Bool.{true≢false, false≢true, eqb-true, eq-eqb, cases_lt}
use Rattle.run_explanations.specs.declared.seeing.Shared.{Shared}
use Rattle.run_explanations.specs.declared.seeing.Shared.TheVariants.{Nothing, One, Several}
use Rattle.run_explanations.specs.Seeing.{joined, shared_by}

-- that all numbers so far are x
abbrev pub AllShow : Shared → ℕ → Type 0
AllShow Nothing x = ⊤
AllShow (One known) x = known ≡ x
AllShow Several x = ⊥

-- that there is a number
abbrev pub Started : Shared → Type 0
Started Nothing = ⊥
Started (One known) = ⊤
Started Several = ⊤

-- that the one number has a property
abbrev pub Holds : (ℕ → Type 0) → Shared → Type 0
Holds P Nothing = ⊤
Holds P (One known) = P known
Holds P Several = ⊤

pub one_is : (s : Shared) (x : ℕ) → Started s → AllShow s x → s ≡ One x
one_is Nothing x some h = absurd some
one_is (One known) x some h = ap One h
one_is Several x some h = absurd h

pub one_fits : (s : Shared) (x : ℕ) → s ≡ One x → AllShow s x
one_fits s x e = subst (λ (s : Shared). AllShow s x) (sym e) refl

-- ---- one more number

one_fits_more : (known number x : ℕ) (b : Bool) → nat_eq known number ≡ b → known ≡ x → number ≡ x
    → AllShow (if b then One known else Several) x
one_fits_more known number x true e h g = h
one_fits_more known number x false e h g =
    absurd (true≢false (sym (eq-eqb known number (h ∙ sym g)) ∙ e))

joined_fits : (s : Shared) (number x : ℕ) → AllShow s x → number ≡ x → AllShow (joined s number) x
joined_fits Nothing number x h g = g
joined_fits (One known) number x h g = one_fits_more known number x (nat_eq known number) refl h g
joined_fits Several number x h g = h

one_splits : (known number x : ℕ) (b : Bool) → nat_eq known number ≡ b
    → AllShow (if b then One known else Several) x → (known ≡ x) × (number ≡ x)
one_splits known number x true e h = (h, sym (eqb-true known number e) ∙ h)
one_splits known number x false e h = absurd h

joined_splits : (s : Shared) (number x : ℕ) → AllShow (joined s number) x
    → (AllShow s x) × (number ≡ x)
joined_splits Nothing number x h = (tt, h)
joined_splits (One known) number x h = one_splits known number x (nat_eq known number) refl h
joined_splits Several number x h = absurd h

one_started : (known : ℕ) (b : Bool) → Started (if b then One known else Several)
one_started known true = tt
one_started known false = tt

joined_started : (s : Shared) (number : ℕ) → Started (joined s number)
joined_started Nothing number = tt
joined_started (One known) number = one_started known (nat_eq known number)
joined_started Several number = tt

one_holds : (P : ℕ → Type 0) (known : ℕ) (b : Bool) → P known
    → Holds P (if b then One known else Several)
one_holds P known true h = h
one_holds P known false h = tt

joined_holds : (P : ℕ → Type 0) (s : Shared) (number : ℕ) → Holds P s → P number
    → Holds P (joined s number)
joined_holds P Nothing number h g = g
joined_holds P (One known) number h g = one_holds P known (nat_eq known number) h
joined_holds P Several number h g = tt

-- ---- one more place, which counts or does not

pub gate_fits : (old new : Shared) (x : ℕ) (b : Bool) → AllShow old x → (b ≡ true → AllShow new x)
    → AllShow (if b then new else old) x
gate_fits old new x true h g = g refl
gate_fits old new x false h g = h

pub gate_started : (old new : Shared) (b : Bool) → Started old → (b ≡ true → Started new)
    → Started (if b then new else old)
gate_started old new true h g = g refl
gate_started old new false h g = h

pub gate_here : (old new : Shared) (b : Bool) → b ≡ true → Started new
    → Started (if b then new else old)
gate_here old new true e g = g
gate_here old new false e g = absurd (false≢true e)

pub gate_holds : (P : ℕ → Type 0) (old new : Shared) (b : Bool) → Holds P old → Holds P new
    → Holds P (if b then new else old)
gate_holds P old new true h g = g
gate_holds P old new false h g = h

place_splits : (s : Shared) (number x : ℕ) (b : Bool)
    → AllShow (if b then joined s number else s) x → (AllShow s x) × (b ≡ true → number ≡ x)
place_splits s number x true h = let p = joined_splits s number x h in (p.0, λ e. p.1)
place_splits s number x false h = (h, λ e. absurd (false≢true e))

-- ---- all places

module _ (begun : Shared) (counts : ℕ → Bool) (number : ℕ → ℕ) where
  pub shared_fits : (x n : ℕ) → AllShow begun x
      → ((j : ℕ) → j < n → counts j ≡ true → number j ≡ x)
      → AllShow (shared_by begun counts number n) x
  shared_fits x zero h g = h
  shared_fits x (suc n) h g =
      let before = shared_fits x n h (λ j lt. g j (omega (arith, lt))) in
      gate_fits (shared_by begun counts number n)
      (joined (shared_by begun counts number n) (number n)) x (counts n) before
      (λ e. joined_fits (shared_by begun counts number n) (number n) x before
      (g n (omega arith) e))

  pub shared_splits : (x n : ℕ) → AllShow (shared_by begun counts number n) x
      → (AllShow begun x) × ((j : ℕ) → j < n → counts j ≡ true → number j ≡ x)
  shared_splits x zero h = (h, λ j lt. absurd (omega (arith, lt)))
  shared_splits x (suc n) h =
      let p = place_splits (shared_by begun counts number n) (number n) x (counts n) h in
      let q = shared_splits x n p.0 in (
        q.0,
        λ j lt. elim (cases_lt j n) [
          | inl before ↦ q.1 j before
          | inr from ↦ let here : n ≡ j = omega (arith, lt, from) in
              subst (λ (j : ℕ). counts j ≡ true → number j ≡ x) here p.1
        ],
      )

  pub shared_goes_on : (n : ℕ) → Started begun → Started (shared_by begun counts number n)
  shared_goes_on zero h = h
  shared_goes_on (suc n) h =
      gate_started (shared_by begun counts number n)
      (joined (shared_by begun counts number n) (number n)) (counts n) (shared_goes_on n h)
      (λ e. joined_started (shared_by begun counts number n) (number n))

  pub shared_started : (j n : ℕ) → j < n → counts j ≡ true
      → Started (shared_by begun counts number n)
  shared_started j zero lt e = absurd (omega (arith, lt))
  shared_started j (suc n) lt e = elim (cases_lt j n) [
    | inl before ↦ gate_started (shared_by begun counts number n)
        (joined (shared_by begun counts number n) (number n)) (counts n)
        (shared_started j n before e)
        (λ e. joined_started (shared_by begun counts number n) (number n))
    | inr from ↦ let here : j ≡ n = omega (arith, lt, from) in
        gate_here (shared_by begun counts number n)
        (joined (shared_by begun counts number n) (number n)) (counts n)
        (subst (λ (j : ℕ). counts j ≡ true) here e)
        (joined_started (shared_by begun counts number n) (number n))
  ]

  pub shared_holds : (P : ℕ → Type 0) (n : ℕ) → Holds P begun → ((j : ℕ) → P (number j))
      → Holds P (shared_by begun counts number n)
  shared_holds P zero h g = h
  shared_holds P (suc n) h g =
      let before = shared_holds P n h g in
      gate_holds P (shared_by begun counts number n)
      (joined (shared_by begun counts number n) (number n)) (counts n) before
      (joined_holds P (shared_by begun counts number n) (number n) before (g n))
