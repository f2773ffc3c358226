-- The faulty nodes after a round, by whether an era begins there.
use Rattle.std.proofs.Common.{ap, Option, inl, inr, ◌⊎◌, ⊎_elim, ◌≡◌, ℕ, zero, suc, ◌+◌, ◌<◌, ◌≤◌}
use Rattle.std.proofs.Common.{Bool, true, false, cond, eqb, leb, List, [], ◌∷◌, map, get_or}
use Rattle.std.proofs.Common.{Some, None, find, refl, sym, subst, ◌∙◌, arith}
use Rattle.std.specs.List.{count_by}
use Rattle.std.specs.List.Sorted.{IsStrictlyIncreasing}
use Rattle.std.proofs.lemmas.Bool.{cases_lt, le-leb, lt-leb, eqb-true}
use Rattle.std.proofs.lemmas.Option.{same_Some}
use Rattle.std.proofs.lemmas.Bool.{eqb-false}
use Rattle.std.proofs.lemmas.List.Sums.{sum_by-cons}
use Rattle.adversary_script.specs.Scripts.{Era}
use Rattle.adversary_script.proofs.EraLists.{tail_rises}

abbrev pub begun : ℕ → List ℕ → ℕ
begun t fs = count_by (λ f. leb f t) fs

abbrev firsts_of : List Era → List ℕ
firsts_of eras = map (λ era. era.first) eras

abbrev first_is : ℕ → Era → Bool
first_is t era = eqb era.first t

pub begun_more : (t f : ℕ) (fs : List ℕ) → begun t (f ∷ fs) ≡ cond (leb f t) 1 0 + begun t fs
begun_more t f fs = sum_by-cons (λ g. cond (leb g t) 1 0) f fs

-- before the first none has begun
none_begun : (t f : ℕ) (fs : List ℕ) → IsStrictlyIncreasing (f ∷ fs) → t < f → begun t (f ∷ fs) ≡ 0
none_begun t f [] h lt = begun_more t f [] ∙ rw (lt-leb f t lt) refl
none_begun t f (g ∷ gs) h lt =
    let next : f < g = h 0 (omega arith) in
    begun_more t f (g ∷ gs)
    ∙ rw (lt-leb f t lt)
    (omega (arith, none_begun t g gs (tail_rises f (g ∷ gs) h) (omega arith)))

mark : ℕ → ℕ → ℕ
mark t f = cond (leb f t) 1 0

mark_more : (t f : ℕ) → mark t f ≤ mark (t + 1) f
unfolding mark
mark_more t f =
    ⊎_elim (λ less. rw (lt-leb f t less) (omega arith))
    (λ le. rw (le-leb f t le, le-leb f (t + 1) (omega arith)) (omega arith)) (cases_lt t f)

mark_here : (t f : ℕ) → f ≡ t + 1 → (mark t f ≡ 0) × (mark (t + 1) f ≡ 1)
unfolding mark
mark_here t f e = (rw (lt-leb f t (omega arith)) refl, rw (le-leb f (t + 1) (omega arith)) refl)

begun_marks : (t f : ℕ) (fs : List ℕ) → begun t (f ∷ fs) ≡ mark t f + begun t fs
unfolding mark
begun_marks t f fs = begun_more t f fs

more_begun : (t : ℕ) (fs : List ℕ) → begun t fs ≤ begun (t + 1) fs
more_begun t [] = omega arith
more_begun t (f ∷ fs) =
    omega (arith, begun_marks t f fs, begun_marks (t + 1) f fs, mark_more t f, more_begun t fs)

-- if as many have begun as one configuration before, none begins

mark_other : (t f : ℕ) → eqb f (t + 1) ≡ false → mark (t + 1) f ≡ mark t f
unfolding mark
mark_other t f e =
    ⊎_elim
    (λ (lt : t < f). rw (lt-leb f t lt, lt-leb f (t + 1) (omega (arith, eqb-false f (t + 1) e)))
    refl)
    (λ le. rw (le-leb f t le, le-leb f (t + 1) (omega arith)) refl) (cases_lt t f)

found_parts : (here : Bool) (era other : Era) (more : Option Era)
    → cond here (Some era) more ≡ Some other
    → ((here ≡ true) × (era ≡ other)) ⊎ ((here ≡ false) × (more ≡ Some other))
found_parts true era other more e = inl (refl, same_Some _ _ e)
found_parts false era other more e = inr (refl, e)

missed_parts : (here : Bool) (era : Era) (more : Option Era) → cond here (Some era) more ≡ None
    → (here ≡ false) × (more ≡ None)
missed_parts true era more e = absurd cc
missed_parts false era more e = (refl, e)

pub same_begun : (t : ℕ) (eras : List Era) → find (first_is (t + 1)) eras ≡ None
    → begun (t + 1) (firsts_of eras) ≡ begun t (firsts_of eras)
same_begun t [] e = refl
same_begun t (era ∷ eras) e =
    let p = missed_parts (eqb era.first (t + 1)) era (find (first_is (t + 1)) eras) e in
    omega (
      arith,
      begun_marks (t + 1) era.first (firsts_of eras),
      begun_marks t era.first (firsts_of eras),
      mark_other t era.first p.0,
      same_begun t eras p.1,
    )

found_above : (f x : ℕ) (eras : List Era) (era : Era) → IsStrictlyIncreasing (f ∷ firsts_of eras)
    → find (first_is x) eras ≡ Some era → f < x
found_above f x [] era h e = absurd cc
found_above f x (next ∷ eras) era h e =
    let lt : f < next.first = h 0 (omega arith) in
    ⊎_elim (λ p. let here : next.first ≡ x = eqb-true next.first x p.0 in omega (arith, lt))
    (λ p. let more : next.first
    < x = found_above next.first x eras era (tail_rises f (firsts_of (next ∷ eras)) h)
    p.1 in
    omega (arith, lt))
    (found_parts (eqb next.first x) next era (find (first_is x) eras) e)

none_behind : (x : ℕ) (eras : List Era) → IsStrictlyIncreasing (x ∷ firsts_of eras)
    → begun x (firsts_of eras) ≡ 0
none_behind x [] h = refl
none_behind x (era ∷ eras) h =
    none_begun x era.first (firsts_of eras) (tail_rises x (firsts_of (era ∷ eras)) h)
    (h 0 (omega arith))

pub found_faulty : (a x : ℕ) (before : List ℕ) (eras : List Era) (era : Era)
    → IsStrictlyIncreasing (a ∷ firsts_of eras) → find (first_is x) eras ≡ Some era
    → get_or (before ∷ map (λ (era : Era). era.faulty) eras) (begun x (firsts_of eras)) []
    ≡ era.faulty
found_faulty a x before [] era h e = absurd cc
found_faulty a x before (next ∷ eras) era h e =
    elim (found_parts (eqb next.first x) next era (find (first_is x) eras) e) [
      | inl p ↦
          let here : next.first ≡ x = eqb-true next.first x p.0 in
          let rises : IsStrictlyIncreasing (x ∷ firsts_of eras) = subst
          (λ f. IsStrictlyIncreasing (f ∷ firsts_of eras)) here
          (tail_rises a (firsts_of (next ∷ eras)) h) in
          let one : begun x (firsts_of (next ∷ eras)) ≡ 1 = begun_more x next.first (firsts_of eras)
          ∙ rw (le-leb next.first x (omega arith)) (omega (arith, none_behind x eras rises)) in
          ap (λ i. get_or (before ∷ next.faulty ∷ map (λ (era : Era). era.faulty) eras) i []) one
          ∙ ap (λ (era : Era). era.faulty) p.1
      | inr p ↦
          let rises = tail_rises a (firsts_of (next ∷ eras)) h in
          let above : next.first < x = found_above next.first x eras era rises p.1 in
          let more : begun x (firsts_of (next ∷ eras))
          ≡ suc (begun x (firsts_of eras)) = begun_more x next.first (firsts_of eras)
          ∙ rw (le-leb next.first x (omega arith)) (omega arith) in
          ap (λ i. get_or (before ∷ next.faulty ∷ map (λ (era : Era). era.faulty) eras) i []) more
          ∙ found_faulty next.first x next.faulty eras era rises p.1
    ]

-- ---- how many have begun

found_more : (here : Bool) (t f : ℕ) (fs : List ℕ) → eqb f (t + 1) ≡ here
    → (here ≡ false → begun t fs + 1 ≤ begun (t + 1) fs)
    → begun t (f ∷ fs) + 1 ≤ begun (t + 1) (f ∷ fs)
found_more true t f fs e more =
    let m = mark_here t f (eqb-true f (t + 1) e) in
    omega (arith, m.0, m.1, begun_marks t f fs, begun_marks (t + 1) f fs, more_begun t fs)
found_more false t f fs e more =
    omega (arith, more refl, begun_marks t f fs, begun_marks (t + 1) f fs, mark_more t f)

-- if an era begins, one more has begun
pub begins_more : (t : ℕ) (eras : List Era) (era : Era) → find (first_is (t + 1)) eras ≡ Some era
    → begun t (firsts_of eras) + 1 ≤ begun (t + 1) (firsts_of eras)
begins_more t [] era e = absurd cc
begins_more t (next ∷ eras) era e =
    found_more (eqb next.first (t + 1)) t next.first (firsts_of eras) refl
    (λ other. begins_more t eras era (behind other e)) where
      behind : eqb next.first (t + 1) ≡ false → find (first_is (t + 1)) (next ∷ eras) ≡ Some era
          → find (first_is (t + 1)) eras ≡ Some era
      behind other e = sym (ap (λ b. cond b (Some next) (find (first_is (t + 1)) eras)) other) ∙ e

-- none is taken back
pub begun_grows : (k t : ℕ) (fs : List ℕ) → begun t fs ≤ begun (t + k) fs
begun_grows zero t fs = let same : t + 0 ≡ t = omega arith in rw same (omega arith)
begun_grows (suc k) t fs =
    let same : t + suc k ≡ t + k + 1 = omega arith in
    rw same (omega (arith, begun_grows k t fs, more_begun (t + k) fs))
