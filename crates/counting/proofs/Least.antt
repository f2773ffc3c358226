-- The least finite value that passes a test, and the least that more than f places hold.
use Rattle.std.proofs.Common.{◌≡◌, ℕ, zero, suc, ◌<◌, ◌≤◌, min, Bool, true, false, if◌then◌else◌}
use Rattle.std.proofs.Common.{All, IfSome, List, [], ◌∷◌, length, get_or, nat_lt, Option, Some}
use Rattle.std.proofs.Common.{None, refl, sym, ap, ◌∙◌, subst, ⊎_elim, arith}
use Rattle.std.proofs.lemmas.Bool.{cases_lt, ltb-true, lt-ltb}
use Rattle.std.proofs.lemmas.List.Elements.{All-head, All-tail}
use Rattle.counting.specs.Values.{count_of, lesser, least_passing, least_above}
use Rattle.counting.proofs.Counts.{held_from_count}

-- the lesser of two that pass passes
lesser_passes : (passes : ℕ → Bool) (a : ℕ) (o : Option ℕ) (j : ℕ) → passes a ≡ true
    → ((j : ℕ) → o ≡ Some j → passes j ≡ true) → lesser a o ≡ Some j → passes j ≡ true
lesser_passes passes a None j h g e = let f : a ≡ j = cc in subst (λ z. passes z ≡ true) f h
lesser_passes passes a (Some b) j h g e =
    let f : min a b ≡ j = cc in
    ⊎_elim (λ lt. let k : b ≡ j = omega arith in g j (ap Some k))
    (λ le. let k : a ≡ j = omega arith in subst (λ z. passes z ≡ true) k h) (cases_lt b a)

least_passes_by : (passes : ℕ → Bool) (a : ℕ) (o : Option ℕ) (j : ℕ) (b : Bool) → passes a ≡ b
    → ((j : ℕ) → o ≡ Some j → passes j ≡ true) → (if b then lesser a o else o) ≡ Some j
    → passes j ≡ true
least_passes_by passes a o j true h g e = lesser_passes passes a o j h g e
least_passes_by passes a o j false h g e = g j e

-- the least value that passes passes
pub least_passes : (passes : ℕ → Bool) (values : List (Option ℕ)) (j : ℕ)
    → least_passing passes values ≡ Some j → passes j ≡ true
least_passes passes [] j e = absurd (cc)
least_passes passes (None ∷ values) j e = least_passes passes values j e
least_passes passes (Some a ∷ values) j e =
    least_passes_by passes a (least_passing passes values) j (passes a) refl
    (least_passes passes values) e

-- whether a value is at most z, infinity never
AtMost : Option ℕ → ℕ → Type 0
AtMost o z = (j : ℕ) × (o ≡ Some j) × (j ≤ z)

lesser_first : (a : ℕ) (o : Option ℕ) → AtMost (lesser a o) a
unfolding AtMost
lesser_first a None = (a, refl, omega arith)
lesser_first a (Some b) = (min a b, refl, omega arith)

lesser_rest : (a : ℕ) (o : Option ℕ) (z : ℕ) → AtMost o z → AtMost (lesser a o) z
unfolding AtMost
lesser_rest a None z s = let f : None ≡ Some s.0 = s.1 in absurd (cc)
lesser_rest a (Some b) z s =
    let f : b ≡ s.0 = let g = s.1 in cc in let le = s.2 in (min a b, refl, omega arith)

first_at_most : (passes : ℕ → Bool) (a z : ℕ) (o : Option ℕ) → a ≡ z → passes z ≡ true
    → AtMost (if passes a then lesser a o else o) z
first_at_most passes a z o e h =
    subst (λ x. AtMost (if passes a then lesser a o else o) x) e
    (subst (λ b. AtMost (if b then lesser a o else o) a) (sym (ap passes e ∙ h)) (lesser_first a o))

rest_at_most : (a z : ℕ) (o : Option ℕ) (b : Bool) → AtMost o z
    → AtMost (if b then lesser a o else o) z
rest_at_most a z o true s = lesser_rest a o z s
rest_at_most a z o false s = s

-- if a value that stands there passes, the least that passes is at most that
pub least_at_most : (passes : ℕ → Bool) (values : List (Option ℕ)) (i z : ℕ) → i < length values
    → get_or values i None ≡ Some z → passes z ≡ true
    → (j : ℕ) × (least_passing passes values ≡ Some j) × (j ≤ z)
unfolding AtMost
least_at_most passes [] i z lt h p = absurd (omega arith)
least_at_most passes (None ∷ values) zero z lt h p = absurd (cc)
least_at_most passes (None ∷ values) (suc i) z lt h p =
    least_at_most passes values i z (omega arith) h p
least_at_most passes (Some a ∷ values) zero z lt h p =
    let f : a ≡ z = cc in first_at_most passes a z (least_passing passes values) f p
least_at_most passes (Some a ∷ values) (suc i) z lt h p =
    rest_at_most a z (least_passing passes values) (passes a)
    (least_at_most passes values i z (omega arith) h p)

-- the least that more than f places hold is held by more than f
pub least_has : (f : ℕ) (values : List (Option ℕ)) (j : ℕ) → least_above f values ≡ Some j
    → f < count_of values (Some j)
least_has f values j e =
    ltb-true _ _ (least_passes (λ a. nat_lt f (count_of values (Some a))) values j e)

-- if more than f places hold z, there is a least such number, and it is at most z
pub least_is : (f : ℕ) (values : List (Option ℕ)) (z : ℕ) → f < count_of values (Some z)
    → (j : ℕ) × (least_above f values ≡ Some j) × (j ≤ z)
least_is f values z h =
    let s = held_from_count values (Some z) (omega arith) in
    least_at_most (λ a. nat_lt f (count_of values (Some a))) values s.0 z s.1 s.2
    (lt-ltb f (count_of values (Some z)) h)

-- a number that more than f places hold, while none below it is so held, is the least
pub least_from : (f : ℕ) (values : List (Option ℕ)) (j : ℕ) → f < count_of values (Some j)
    → ((z : ℕ) → z < j → count_of values (Some z) ≤ f) → least_above f values ≡ Some j
least_from f values j h lower =
    let s = least_is f values j h in
    let more = least_has f values s.0 s.1 in
    let le = s.2 in
    let e : s.0
    ≡ j = ⊎_elim (λ lt. absurd (omega (arith, lower s.0 lt))) (λ ge. omega arith)
    (cases_lt s.0 j) in
    s.1 ∙ ap Some e

no_least_by : (f : ℕ) (values : List (Option ℕ)) → ((z : ℕ) → count_of values (Some z) ≤ f)
    → (o : Option ℕ) → least_above f values ≡ o → o ≡ None
no_least_by f values h (Some z) e = absurd (omega (arith, h z, least_has f values z e))
no_least_by f values h None e = refl

-- if no number is held by more than f places, there is no least
pub no_least : (f : ℕ) (values : List (Option ℕ)) → ((z : ℕ) → count_of values (Some z) ≤ f)
    → least_above f values ≡ None
no_least f values h = no_least_by f values h (least_above f values) refl

-- no number below the least is held by more than f places
pub few_below : (f : ℕ) (values : List (Option ℕ)) (j z : ℕ) → least_above f values ≡ Some j → z < j
    → count_of values (Some z) ≤ f
few_below f values j z e lt = ⊎_elim
    (λ more. let s = least_is f values z more in
    let g : Some j ≡ Some s.0 = sym e ∙ s.1 in
    let k : j ≡ s.0 = cc in
    absurd (omega (arith, s.2)))
    (λ le. le)
    (cases_lt f (count_of values (Some z)))

-- if there is no least, no number is held by more than f places
pub least_above_none : (f : ℕ) (values : List (Option ℕ)) (z : ℕ) → least_above f values ≡ None
    → count_of values (Some z) ≤ f
least_above_none f values z e = ⊎_elim
    (λ more. let s = least_is f values z more in
    let g : None ≡ Some s.0 = sym e ∙ s.1 in
    absurd (cc))
    (λ le. le)
    (cases_lt f (count_of values (Some z)))

lesser_in : (c a : ℕ) (o : Option ℕ) → a < c → IfSome o (λ x. x < c)
    → IfSome (lesser a o) (λ x. x < c)
lesser_in c a None h g = h
lesser_in c a (Some b) h g = omega arith

least_in_by : (c a : ℕ) (b : Bool) (o : Option ℕ) → a < c → IfSome o (λ x. x < c)
    → IfSome (if b then lesser a o else o) (λ x. x < c)
least_in_by c a true o h g = lesser_in c a o h g
least_in_by c a false o h g = g

-- the least value is below what all finite ones are below
pub least_in : (c : ℕ) (passes : ℕ → Bool) (values : List (Option ℕ))
    → All (λ o. IfSome o (λ x. x < c)) values → IfSome (least_passing passes values) (λ x. x < c)
least_in c passes [] h = tt
least_in c passes (None ∷ values) h =
    least_in c passes values (All-tail (λ o. IfSome o (λ x. x < c)) None values h)
least_in c passes (Some a ∷ values) h =
    least_in_by c a (passes a) (least_passing passes values)
    (All-head (λ o. IfSome o (λ x. x < c)) (Some a) values h)
    (least_in c passes values (All-tail (λ o. IfSome o (λ x. x < c)) (Some a) values h))

-- the least that more than f places hold is below what all finite values are below
pub least_above_in : (c f : ℕ) (values : List (Option ℕ)) → All (λ o. IfSome o (λ x. x < c)) values
    → IfSome (least_above f values) (λ x. x < c)
least_above_in c f values h = least_in c (λ a. nat_lt f (count_of values (Some a))) values h
