-- Counts of places: what pigeonhole arguments need.
use Rattle.std.proofs.Common.{◌≡◌, ◌⊎◌, ℕ, zero, suc, ◌+◌, ◌-◌, ◌<◌, ◌≤◌, Bool, true, false}
use Rattle.std.proofs.Common.{if◌then◌else◌, List, [], ◌∷◌, length, get_or, count_by, refl, ap, ◌∙◌}
use Rattle.std.proofs.Common.{subst, inl, inr, ⊎_elim, arith, add-suc, add-zero}
use Rattle.std.proofs.lemmas.Bool.{cases_Bool, false≢true, cases_lt}
use Rattle.std.proofs.lemmas.List.Sums.{sum_by-cons}
use Rattle.counting.specs.Places.{places}

overlap_step : (a b c : Bool) → (a ≡ true → b ≡ true → c ≡ true)
    → (if a then 1 else 0) + (if b then 1 else 0) ≤ 1 + (if c then 1 else 0)
overlap_step true true true h = omega arith
overlap_step true true false h = absurd (false≢true (h refl refl))
overlap_step true false c h = omega arith
overlap_step false true c h = omega arith
overlap_step false false c h = omega arith

-- where two tests pass together a third does: so the two overlap at no more places than it has
pub overlap : (p q r : ℕ → Bool) (n : ℕ) → ((i : ℕ) → i < n → p i ≡ true → q i ≡ true → r i ≡ true)
    → places p n + places q n ≤ n + places r n
overlap p q r zero h = omega arith
overlap p q r (suc n) h =
    omega (
      arith,
      overlap_step (p n) (q n) (r n) (h n (omega arith)),
      overlap p q r n (λ i lt. h i (omega arith)),
    )

apart_step : (a b : Bool) → (a ≡ true → b ≡ true → ⊥)
    → (if a then 1 else 0) + (if b then 1 else 0) ≤ 1
apart_step true true h = absurd (h refl refl)
apart_step true false h = omega arith
apart_step false true h = omega arith
apart_step false false h = omega arith

-- two tests that never pass together have at most n places between them
pub apart : (p q : ℕ → Bool) (n : ℕ) → ((i : ℕ) → i < n → p i ≡ true → q i ≡ true → ⊥)
    → places p n + places q n ≤ n
apart p q zero h = omega arith
apart p q (suc n) h =
    omega
    (arith, apart_step (p n) (q n) (h n (omega arith)), apart p q n (λ i lt. h i (omega arith)))

cover_step : (a b c : Bool) → (a ≡ true → (b ≡ true) ⊎ (c ≡ true))
    → (if a then 1 else 0) ≤ (if b then 1 else 0) + (if c then 1 else 0)
cover_step false b c h = omega arith
cover_step true true c h = omega arith
cover_step true false true h = omega arith
cover_step true false false h = absurd (⊎_elim false≢true false≢true (h refl))

-- where one test passes, one of two others does: so it has no more places than they have together
pub cover : (p q r : ℕ → Bool) (n : ℕ)
    → ((i : ℕ) → i < n → p i ≡ true → (q i ≡ true) ⊎ (r i ≡ true))
    → places p n ≤ places q n + places r n
cover p q r zero h = omega arith
cover p q r (suc n) h =
    omega (
      arith,
      cover_step (p n) (q n) (r n) (h n (omega arith)),
      cover p q r n (λ i lt. h i (omega arith)),
    )

all_step : (b c : Bool) → (b ≡ true) ⊎ (c ≡ true) → 1 ≤ (if b then 1 else 0) + (if c then 1 else 0)
all_step true c h = omega arith
all_step false true h = omega arith
all_step false false h = absurd (⊎_elim false≢true false≢true h)

-- two tests of which one passes at each place have at least n places between them
pub cover_all : (q r : ℕ → Bool) (n : ℕ) → ((i : ℕ) → i < n → (q i ≡ true) ⊎ (r i ≡ true))
    → n ≤ places q n + places r n
cover_all q r zero h = omega arith
cover_all q r (suc n) h =
    omega
    (arith, all_step (q n) (r n) (h n (omega arith)), cover_all q r n (λ i lt. h i (omega arith)))

less_step : (a b : Bool) → (a ≡ true → b ≡ true) → (if a then 1 else 0) ≤ (if b then 1 else 0)
less_step true true h = omega arith
less_step true false h = absurd (false≢true (h refl))
less_step false b h = omega arith

-- a test that passes only where another does has no more places
pub fewer : (p q : ℕ → Bool) (n : ℕ) → ((i : ℕ) → i < n → p i ≡ true → q i ≡ true)
    → places p n ≤ places q n
fewer p q zero h = omega arith
fewer p q (suc n) h =
    omega
    (arith, less_step (p n) (q n) (h n (omega arith)), fewer p q n (λ i lt. h i (omega arith)))

-- tests that agree at each place have equally many
pub same_places : (p q : ℕ → Bool) (n : ℕ) → ((i : ℕ) → i < n → p i ≡ q i) → places p n ≡ places q n
same_places p q zero h = refl
same_places p q (suc n) h =
    ap (λ b. places p n + (if b then 1 else 0)) (h n (omega arith))
    ∙ ap (λ k. k + (if q n then 1 else 0)) (same_places p q n (λ i lt. h i (omega arith)))

-- no more than n of n places pass
pub at_most : (p : ℕ → Bool) (n : ℕ) → places p n ≤ n
at_most p zero = omega arith
at_most p (suc n) = omega (arith, less_step (p n) true (λ e. refl), at_most p n)

-- a place below n that passes, or all fail
SomePlace : (p : ℕ → Bool) (n : ℕ) → Type 0
SomePlace p n = ((i : ℕ) × (i < n) × (p i ≡ true)) ⊎ ((i : ℕ) → i < n → p i ≡ false)

some_place_by : (p : ℕ → Bool) (n : ℕ) → (p n ≡ true) ⊎ (p n ≡ false) → SomePlace p n
    → SomePlace p (suc n)
unfolding SomePlace
some_place_by p n (inl a) s = inl (n, omega arith, a)
some_place_by p n (inr a) (inl s) = inl (s.0, omega arith, s.2)
some_place_by p n (inr a) (inr s) =
    inr
    (λ i lt. ⊎_elim (λ g. s i g) (λ g. let e : n ≡ i = omega arith in subst (λ j. p j ≡ false) e a)
    (cases_lt i n))

-- a place below n that passes, or all fail
pub some_place : (p : ℕ → Bool) (n : ℕ)
    → ((i : ℕ) × (i < n) × (p i ≡ true)) ⊎ ((i : ℕ) → i < n → p i ≡ false)
unfolding SomePlace
some_place p zero = inr (λ i lt. absurd (omega arith))
some_place p (suc n) = some_place_by p n (cases_Bool (p n)) (some_place p n)

none_step : (p : ℕ → Bool) (n : ℕ) → p n ≡ false → places p n ≤ 0 → places p (suc n) ≤ 0
none_step p n e h = rw e (omega arith)

-- if all fail, none are counted
pub none_pass : (p : ℕ → Bool) (n : ℕ) → ((i : ℕ) → i < n → p i ≡ false) → places p n ≤ 0
none_pass p zero h = omega arith
none_pass p (suc n) h =
    none_step p n (h n (omega arith)) (none_pass p n (λ i lt. h i (omega arith)))

-- if more than none are counted, one passes
pub one_passes : (p : ℕ → Bool) (n : ℕ) → 0 < places p n → (i : ℕ) × (i < n) × (p i ≡ true)
one_passes p n h = ⊎_elim (λ s. s) (λ s. absurd (omega (arith, none_pass p n s))) (some_place p n)

OneFails : (p : ℕ → Bool) (n : ℕ) → Type 0
OneFails p n = (i : ℕ) × (i < n) × (p i ≡ false)

one_fails_by : (p : ℕ → Bool) (n : ℕ) → (p n ≡ true) ⊎ (p n ≡ false) → places p (suc n) < suc n
    → (places p n < n → OneFails p n) → OneFails p (suc n)
unfolding OneFails
one_fails_by p n (inr a) h rest = (n, omega arith, a)
one_fails_by p n (inl a) h rest =
    let s = rest (let g = rw a at h in omega arith) in (s.0, omega arith, s.2)

-- fewer than n of n places pass, so one fails
pub one_fails : (p : ℕ → Bool) (n : ℕ) → places p n < n → (i : ℕ) × (i < n) × (p i ≡ false)
unfolding OneFails
one_fails p zero h = absurd (omega arith)
one_fails p (suc n) h = one_fails_by p n (cases_Bool (p n)) h (one_fails p n)

-- the places of two stretches
pub stretches : (p : ℕ → Bool) (a b : ℕ) → places p (a + b) ≡ places p a + places (λ i. p (a + i)) b
stretches p a zero = simp add-zero
stretches p a (suc b) = rw add-suc (omega (arith, stretches p a b))

-- fewer places are counted below a lower bound
pub shorter : (p : ℕ → Bool) (n m : ℕ) → n ≤ m → places p n ≤ places p m
shorter p n m h =
    let d = m - n in let e : m ≡ n + d = omega arith in rw e (omega (arith, stretches p n d))

-- the first place apart
pub first_apart : (p : ℕ → Bool) (n : ℕ)
    → places p (suc n) ≡ (if p 0 then 1 else 0) + places (λ i. p (suc i)) n
first_apart p zero = omega arith
first_apart p (suc n) = omega (arith, first_apart p n)

-- a count over a list by its places
pub count_by_places : {X : Type 0} (q : X → Bool) (xs : List X) (d : X)
    → count_by q xs ≡ places (λ i. q (get_or xs i d)) (length xs)
count_by_places q [] d = refl
count_by_places q (x ∷ xs) d =
    omega (
      arith,
      sum_by-cons (λ x. if q x then 1 else 0) x xs,
      count_by_places q xs d,
      first_apart (λ i. q (get_or (x ∷ xs) i d)) (length xs),
    )
