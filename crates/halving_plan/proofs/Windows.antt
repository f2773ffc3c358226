-- A window of rounds in which no correct node follows the left half. Who follows it is given by
-- configuration and place.
use Rattle.std.proofs.Common.{◌≡◌, ◌⊎◌, ℕ, zero, suc, ◌+◌, ◌<◌, Bool, true, false, not}
use Rattle.std.proofs.Common.{◌&&◌, sym, ap, ◌∙◌, subst, inl, inr, ⊎_elim, arith}
use Rattle.std.proofs.lemmas.Bool.{cases_lt, and_parts, and_cases, not-true, true≢false}
use Rattle.counting.proofs.Places.{some_place}
use Rattle.halving_plan.proofs.Correct.{IsCorrect}

-- no correct node follows in so many rounds from one on
pub record NoneFollows (n : ℕ) (faulty : ℕ → Bool) (follows : ℕ → ℕ
    → Bool) (from rounds : ℕ) : Type 0 where
  pub none : (k v : ℕ) → k < rounds → IsCorrect n faulty v → follows (from + k) v ≡ false

-- a correct node that follows in one of them
pub record OneFollows (n : ℕ) (faulty : ℕ → Bool) (follows : ℕ → ℕ → Bool) (from rounds : ℕ) : Type 0 where
  pub k : ℕ
  pub v : ℕ
  pub within : k < rounds
  pub correct : IsCorrect n faulty v
  pub follows_is : follows (from + k) v ≡ true

module _ (n : ℕ) (faulty : ℕ → Bool) (follows : ℕ → ℕ → Bool) where
  -- one round
  follows_in : (r : ℕ)
      → ((v : ℕ) × IsCorrect n faulty v × (follows r v ≡ true)) ⊎ ((v : ℕ) → IsCorrect n faulty v
      → follows r v ≡ false)
  follows_in r = ⊎_elim
      (λ s. let p = and_parts (not (faulty s.0)) (follows r s.0) s.2 in
      inl (s.0, record { below = s.1; ok = not-true (faulty s.0) p.0 }, p.1))
      (λ s. inr
      (λ v c. ⊎_elim (λ e. absurd (true≢false (sym (ap not c.ok) ∙ e))) (λ e. e)
      (and_cases (not (faulty v)) (follows r v) (s v c.below))))
      (some_place (λ v. not (faulty v) && follows r v) n)

  window_by : (from q : ℕ)
      → ((v : ℕ) × IsCorrect n faulty v × (follows (from + q) v ≡ true)) ⊎ ((v : ℕ)
      → IsCorrect n faulty v → follows (from + q) v ≡ false)
      → OneFollows n faulty follows from q ⊎ NoneFollows n faulty follows from q
      → OneFollows n faulty follows from (suc q) ⊎ NoneFollows n faulty follows from (suc q)
  window_by from q (inl s) w =
      inl (record { k = q; v = s.0; within = omega arith; correct = s.1; follows_is = s.2 })
  window_by from q (inr s) (inl w) = let lt = w.within in
      inl (record {
        k = w.k;
        v = w.v;
        within = omega arith;
        correct = w.correct;
        follows_is =
            w.follows_is;
      })
  window_by from q (inr s) (inr w) = inr (record {
    none = λ k v lt c. ⊎_elim (λ less. w.none k v less c) (λ le. let e : q ≡ k = omega arith in
        subst (λ j. follows (from + j) v ≡ false) e (s v c)) (cases_lt k q);
  })

  -- some correct node follows, or none does
  pub window : (from q : ℕ) → OneFollows n faulty follows from q ⊎ NoneFollows n faulty follows from q
  window from zero = inr (record { none = λ k v lt c. absurd (omega arith) })
  window from (suc q) = window_by from q (follows_in (from + q)) (window from q)
