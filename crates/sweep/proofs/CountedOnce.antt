-- Of an era every run is counted once: under its first locked configuration, or under none.
use Rattle.std.proofs.Common.{◌≡◌, ℕ, zero, suc, ◌+◌, ◌<◌, ◌≤◌, inl, inr, List, [], ◌∷◌, length}
use Rattle.std.proofs.Common.{Bool, cond, Option, Some, None, sum_by, count_by, refl}
use Rattle.std.proofs.Common.{ap, arith}
use Rattle.std.specs.Prelude.{nat_eq, IfSome}
use Rattle.std.specs.List.{range_with_len}
use Rattle.std.specs.Option.{option_eq}
use Rattle.std.proofs.lemmas.Bool.{cases_eq, eq-eqb, ne_eqb}
use Rattle.std.proofs.lemmas.List.Sums.{sum_by-cons}

-- how many of n numbers from a on are this one
abbrev hits : Option ℕ → (a n : ℕ) → ℕ
hits one a n = sum_by (λ t. cond (option_eq nat_eq one (Some t)) 1 0) (range_with_len a n)

abbrev is_hit : Option ℕ → (t : ℕ) → ℕ
is_hit one t = cond (option_eq nat_eq one (Some t)) 1 0

hits_more : (one : Option ℕ) (a n : ℕ) → hits one a (suc n) ≡ is_hit one a + hits one (a + 1) n
hits_more one a n = sum_by-cons (is_hit one) a (range_with_len (a + 1) n)

-- one that lies before them is none of them
hits_before : (t a n : ℕ) → t < a → hits (Some t) a n ≡ 0
hits_before t a zero before = refl
hits_before t a (suc n) before =
    let here : is_hit (Some t) a ≡ 0 =
    ap (λ (b : Bool). cond b 1 0) (ne_eqb t a (λ is. omega (arith, before, is))) in
    omega (arith, hits_more (Some t) a n, here, hits_before t (a + 1) n (omega arith))

-- and one among them is one of them
hits_among : (t a n : ℕ) → a ≤ t → t < a + n → hits (Some t) a n ≡ 1
hits_among t a zero from before = absurd (omega arith)
hits_among t a (suc n) from before = elim (cases_eq t a) [
  | inl is ↦
      let here : is_hit (Some t) a ≡ 1 = ap (λ (b : Bool). cond b 1 0) (eq-eqb t a is) in
      omega (
        arith,
        hits_more (Some t) a n,
        here,
        hits_before t (a + 1) n (omega (arith, is)),
      )
  | inr other ↦
      let here : is_hit (Some t) a ≡ 0 = ap (λ (b : Bool). cond b 1 0) (ne_eqb t a other) in
      omega (
        arith,
        hits_more (Some t) a n,
        here,
        hits_among t (a + 1) n (omega (arith, from, other)) (omega (arith, before)),
      )
]

hits_none : (a n : ℕ) → hits None a n ≡ 0
hits_none a zero = refl
hits_none a (suc n) = omega (arith, hits_more None a n, hits_none (a + 1) n)

-- one that is among them, or none, is counted once
hits_once : (one : Option ℕ) (a n : ℕ) → IfSome one (λ t. (a ≤ t) × (t < a + n))
    → hits one a n + cond (option_eq nat_eq one None) 1 0 ≡ 1
hits_once None a n among = omega (arith, hits_none a n)
hits_once (Some t) a n among = omega (arith, hits_among t a n among.0 among.1)

module _ (lock : ℕ → Option ℕ) where
  -- of some numbers, those with this first locked configuration
  abbrev pub count_at : (seeds : List ℕ) → Option ℕ → ℕ
  count_at seeds locked = count_by (λ seed. option_eq nat_eq (lock seed) locked) seeds

  -- and those with one of n configurations from a on, added up
  abbrev pub counts : (seeds : List ℕ) → (a n : ℕ) → ℕ
  counts seeds a n = sum_by (λ t. count_at seeds (Some t)) (range_with_len a n)

  counts_next : (seeds : List ℕ) (a n : ℕ)
      → counts seeds a (suc n) ≡ count_at seeds (Some a) + counts seeds (a + 1) n
  counts_next seeds a n =
      sum_by-cons (λ t. count_at seeds (Some t)) a (range_with_len (a + 1) n)

  count_more : (seed : ℕ) (seeds : List ℕ) (locked : Option ℕ)
      → count_at (seed ∷ seeds) locked
      ≡ cond (option_eq nat_eq (lock seed) locked) 1 0 + count_at seeds locked
  count_more seed seeds locked =
      sum_by-cons (λ s. cond (option_eq nat_eq (lock s) locked) 1 0) seed seeds

  counts_more : (seed : ℕ) (seeds : List ℕ) (a n : ℕ)
      → counts (seed ∷ seeds) a n ≡ hits (lock seed) a n + counts seeds a n
  counts_more seed seeds a zero = refl
  counts_more seed seeds a (suc n) = omega (
    arith,
    counts_next (seed ∷ seeds) a n,
    counts_next seeds a n,
    hits_more (lock seed) a n,
    count_more seed seeds (Some a),
    counts_more seed seeds (a + 1) n,
  )

  counts_none : (a n : ℕ) → counts [] a n ≡ 0
  counts_none a zero = refl
  counts_none a (suc n) = omega (arith, counts_next [] a n, counts_none (a + 1) n)

  -- all of them are counted, if each has one of these, or none
  pub all_counted : (seeds : List ℕ) (a n : ℕ)
      → ((seed : ℕ) → IfSome (lock seed) (λ t. (a ≤ t) × (t < a + n)))
      → counts seeds a n + count_at seeds None ≡ length seeds
  all_counted [] a n among = omega (arith, counts_none a n)
  all_counted (seed ∷ seeds) a n among = omega (
    arith,
    counts_more seed seeds a n,
    count_more seed seeds None,
    hits_once (lock seed) a n (among seed),
    all_counted seeds a n among,
  )
