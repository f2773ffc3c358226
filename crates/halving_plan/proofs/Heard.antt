-- What a node finds in what it hears: which number is backed, and what a half shows.
use Rattle.std.proofs.Common.{◌≡◌, ℕ, ◌+◌, ◌-◌, ◌*◌, ◌%◌, ◌<◌, ◌≤◌, Bool, true, false, List}
use Rattle.std.proofs.Common.{get_or, eqb, leb, sym, ap, ◌∙◌, inl, inr, ⊎_elim, arith}
use Rattle.std.proofs.Math.Nat.{mod-eq_of_lt}
use Rattle.std.proofs.lemmas.Bool.{cases_Bool, cases_eq, eqb-true, eq-eqb, leb-true, le-leb}
use Rattle.std.proofs.lemmas.Bool.{true_from_ne_false}
use Rattle.counting.specs.Places.{places}
use Rattle.counting.proofs.Places.{cover_all, overlap, count_by_places}
use Rattle.counting.proofs.Majority.{majority_or_zero_of_most}
use Rattle.halving_plan.specs.LevelStates.{LevelState, zero_level_state, saw, shown}
use Rattle.halving_plan.specs.Hearing.{HearsOutputs, HearsLevelStates}

module _ (n f : ℕ) (faulty : ℕ → Bool) (quorum : 3 * f < n) (few : places faulty n ≤ f)
    (states : ℕ → LevelState) where
  abbrev seen_at : List LevelState → ℕ → ℕ
  seen_at heard i = let state = get_or heard i zero_level_state in state.seen

  in_places : (x : ℕ) (heard : List LevelState) → HearsLevelStates n faulty states heard
      → saw x heard ≡ places (λ i. eqb x (seen_at heard i)) n
  in_places x heard h =
      count_by_places (λ (p : LevelState). eqb x p.seen) heard zero_level_state
      ∙ ap (places (λ i. eqb x (seen_at heard i))) h.size

  is_seen : (heard : List LevelState) → HearsLevelStates n faulty states heard → (i : ℕ) → i < n
      → faulty i ≡ false → seen_at heard i ≡ (states i).seen
  is_seen heard h i lt ok = ap (λ (p : LevelState). p.seen) (h.honest i lt ok)

  -- what is backed at two nodes is one number
  pub one_backed : (x y : ℕ) (one other : List LevelState)
      → HearsLevelStates n faulty states one → HearsLevelStates n faulty states other
      → leb (n - f) (saw x one) ≡ true → leb (n - f) (saw y other) ≡ true → x ≡ y
  one_backed x y one other h k a b = ⊎_elim (λ e. e)
      (λ ne. absurd (omega (
        arith,
        leb-true (n - f) (saw x one) a,
        leb-true (n - f) (saw y other) b,
        in_places x one h,
        in_places y other k,
        overlap (λ i. eqb x (seen_at one i)) (λ i. eqb y (seen_at other i)) faulty n
            (λ i lt p q. true_from_ne_false (faulty i) (λ ok. ne
            (eqb-true x (seen_at one i) p
            ∙ (is_seen one h i lt ok
            ∙ sym (eqb-true y (seen_at other i) q ∙ is_seen other k i lt ok))))),
      )))
      (cases_eq x y)

  -- what all correct nodes saw is backed
  pub all_back : (x : ℕ) (heard : List LevelState) → HearsLevelStates n faulty states heard
      → ((w : ℕ) → w < n → faulty w ≡ false → (states w).seen ≡ x)
      → leb (n - f) (saw x heard) ≡ true
  all_back x heard h all = le-leb (n - f) (saw x heard) (omega (
    arith,
    in_places x heard h,
    cover_all faulty (λ i. eqb x (seen_at heard i)) n
        (λ i lt. ⊎_elim inl
        (λ ok. inr (eq-eqb x (seen_at heard i) (sym (is_seen heard h i lt ok ∙ all i lt ok))))
        (cases_Bool (faulty i))),
  ))

-- what a half shows that tolerates its faults and has one output
pub is_shown : (first n f period : ℕ) (faulty : ℕ → Bool) → 3 * f < n
    → places (λ i. faulty (first + i)) n ≤ f → (outputs : ℕ → ℕ) (heard : List ℕ)
    → HearsOutputs first n faulty outputs heard → (output : ℕ) → output < period
    → ((u : ℕ) → u < n → faulty (first + u) ≡ false → outputs (first + u) ≡ output)
    → shown period heard ≡ output
is_shown first n f period faulty quorum few outputs heard h output below common =
    let size = h.size in
    let odd : ℕ → Bool = λ i. faulty (first + i) in
    let most : 2 * places odd n < n = omega arith in
    ap (λ x. x % period) (majority_or_zero_of_most heard odd output
    (omega (arith, ap (places odd) size, most))
    (λ i lt ok. h.honest i (omega arith) ok ∙ common i (omega arith) ok))
    ∙ mod-eq_of_lt below
