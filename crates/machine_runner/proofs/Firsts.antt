-- In which era a configuration is, from the first configurations of the eras.
use Rattle.std.proofs.Common.{◌≡◌, ℕ, zero, suc, ◌+◌, ◌<◌, ◌≤◌, inl, inr, Bool, true, false, cond}
use Rattle.std.proofs.Common.{ltb, leb, eqb, List, [], ◌∷◌, length, map, get_or, Option, Some, None}
use Rattle.std.proofs.Common.{find, refl, sym, ap, ◌∙◌, subst, arith}
use Rattle.std.specs.List.{count_by}
use Rattle.std.specs.List.Sorted.{IsStrictlyIncreasing}
use Rattle.std.proofs.lemmas.Bool.{cases_lt, le-leb, lt-leb, lt-ltb, ltb-true, eqb-true}
use Rattle.std.proofs.lemmas.List.{length-map}
use Rattle.std.proofs.lemmas.List.Elements.{All-get_or}
use Rattle.std.proofs.lemmas.List.Sums.{sum_by-cons}
use Rattle.adversary_script.specs.Scripts.{Era, Script, IsScript, firsts}
use Rattle.adversary_script.specs.Eras.{era_of, first_of_era, end_of_era}
use Rattle.adversary_script.specs.Lookup.{hit_at}
use Rattle.adversary_script.proofs.EraLists.{tail_rises}
use Rattle.machine_runner.specs.Beginnings.{BeginsAt}
use Rattle.machine_runner.specs.Laws.{IsOfOneEra}

-- how many of these numbers are at most t
abbrev begun : ℕ → List ℕ → ℕ
begun t fs = count_by (λ f. leb f t) fs

begun_more : (t f : ℕ) (fs : List ℕ) → begun t (f ∷ fs) ≡ cond (leb f t) 1 0 + begun t fs
begun_more t f fs = sum_by-cons (λ g. cond (leb g t) 1 0) f fs

-- before the first of them none is
none_begun : (t f : ℕ) (fs : List ℕ) → IsStrictlyIncreasing (f ∷ fs) → t < f → begun t (f ∷ fs) ≡ 0
none_begun t f [] h lt = begun_more t f [] ∙ rw (lt-leb f t lt) refl
none_begun t f (g ∷ gs) h lt =
    let next : f < g = h 0 (omega arith) in
    begun_more t f (g ∷ gs) ∙ rw (lt-leb f t lt)
    (omega (arith, none_begun t g gs (tail_rises f (g ∷ gs) h) (omega arith)))

one_begun : (t f : ℕ) (fs : List ℕ) → f ≤ t → begun t (f ∷ fs) ≡ suc (begun t fs)
one_begun t f fs le = begun_more t f fs ∙ rw (le-leb f t le) (omega arith)

first_least : (f : ℕ) (fs : List ℕ) (j : ℕ) → IsStrictlyIncreasing (f ∷ fs) → j ≤ length fs
    → f ≤ get_or (f ∷ fs) j 0
first_least f fs zero h le = omega arith
first_least f [] (suc j) h le = absurd (omega arith)
first_least f (g ∷ gs) (suc j) h le =
    let next : f < g = h 0 (omega arith) in
    let rest : g ≤ get_or (g ∷ gs) j 0 = first_least g gs j (tail_rises f (g ∷ gs) h)
    (omega arith) in
    omega arith

-- the count of a number from one of them on and before the next
count_is : (a : ℕ) (fs : List ℕ) (t j : ℕ) → IsStrictlyIncreasing (a ∷ fs) → j ≤ length fs
    → get_or (a ∷ fs) j 0 ≤ t → (j < length fs → t < get_or fs j 0)
    → begun t fs ≡ j
count_is a [] t j h le low high = omega arith
count_is a (f ∷ fs) t zero h le low high = none_begun t f fs (tail_rises a (f ∷ fs) h)
    (high (omega arith))
count_is a (f ∷ fs) t (suc j) h le low high =
    let rises = tail_rises a (f ∷ fs) h in
    let here : f ≤ t = let l = first_least f fs j rises (omega arith) in omega (arith, low) in
    one_begun t f fs here ∙ ap suc (count_is f fs t j rises (omega arith) low
    (λ lt. high (omega arith)))

count_within : (t : ℕ) (fs : List ℕ) → begun t fs ≤ length fs
count_within t [] = omega arith
count_within t (f ∷ fs) = omega (arith, begun_more t f fs, one (leb f t), count_within t fs) where
  one : (b : Bool) → cond b 1 0 ≤ 1
  one true = omega arith
  one false = omega arith

-- and a number stands from that one on, before the next
count_from : (a : ℕ) (fs : List ℕ) (t : ℕ) → IsStrictlyIncreasing (a ∷ fs) → a ≤ t
    → get_or (a ∷ fs) (begun t fs) 0 ≤ t
count_from a [] t h le = le
count_from a (f ∷ fs) t h le = elim (cases_lt t f) [
  | inl lt ↦ subst (λ i. get_or (a ∷ f ∷ fs) i 0 ≤ t)
      (sym (none_begun t f fs (tail_rises a (f ∷ fs) h) lt)) le
  | inr here ↦ subst (λ i. get_or (a ∷ f ∷ fs) i 0 ≤ t) (sym (one_begun t f fs here))
      (count_from f fs t (tail_rises a (f ∷ fs) h) here)
]

count_before : (a : ℕ) (fs : List ℕ) (t : ℕ) → IsStrictlyIncreasing (a ∷ fs)
    → begun t fs < length fs → t < get_or fs (begun t fs) 0
count_before a [] t h lt = absurd (omega arith)
count_before a (f ∷ fs) t h some =
    let rises = tail_rises a (f ∷ fs) h in
    elim (cases_lt t f) [
      | inl lt ↦ subst (λ i. t < get_or (f ∷ fs) i 0) (sym (none_begun t f fs rises lt)) lt
      | inr here ↦
          let one = one_begun t f fs here in
          subst (λ i. t < get_or (f ∷ fs) i 0) (sym one)
          (count_before f fs t rises (omega (arith, one, some)))
    ]

found_none : (t : ℕ) (era : Era) (more : Option Era) (here : Bool) → eqb era.first t ≡ here
    → (era.first ≡ t → ⊥) → more ≡ None → cond here (Some era) more ≡ None
found_none t era more true is other none = absurd (other (eqb-true era.first t is))
found_none t era more false is other none = none

-- if no era has that first configuration, the search finds none
none_found : (t : ℕ) (eras : List Era) → ((k : ℕ) → k < length eras
    → get_or (map (λ era. era.first) eras) k 0 ≡ t → ⊥) → find (λ era. eqb era.first t) eras ≡ None
none_found t [] none = refl
none_found t (era ∷ eras) none = found_none t era (find (λ era. eqb era.first t) eras)
    (eqb era.first t) refl (none zero (omega arith))
    (none_found t eras (λ k lt is. none (suc k) (omega arith) is))

module _ (s : Script) where
  size : length (map (λ (era : Era). era.first) s.eras) ≡ length s.eras
  size = length-map s.eras (λ (era : Era). era.first)

  end_more : (j : ℕ) → j < length s.eras → end_of_era s j ≡ first_of_era s (j + 1)
  end_more j lt = ap (λ b. cond b (first_of_era s (j + 1)) (s.rounds + 1))
      (lt-ltb j (length s.eras) lt)

  next_first : (j : ℕ) → first_of_era s (j + 1) ≡ get_or (map (λ (era : Era). era.first) s.eras) j 0
  next_first j = let e : j + 1 ≡ suc j = omega arith in ap (λ m. get_or (firsts s) m 0) e

  pub era_within : (t : ℕ) → era_of s t ≤ length s.eras
  era_within t = let most = count_within t (map (λ (era : Era). era.first) s.eras) in
      omega (arith, most, size)

  module _ (rising : IsStrictlyIncreasing (firsts s)) where
    -- what is from the first configuration of era j on and before its end is of era j
    pub in_era : (j t : ℕ) → j ≤ length s.eras → first_of_era s j ≤ t → t < end_of_era s j
        → era_of s t ≡ j
    in_era j t le low high = count_is 0 (map (λ (era : Era). era.first) s.eras) t j rising
        (omega (arith, size)) low
        (λ lt. let more : j < length s.eras = omega (arith, lt, size) in
        omega (arith, high, end_more j more, next_first j))

    pub era_from : (t : ℕ) → first_of_era s (era_of s t) ≤ t
    era_from t = count_from 0 (map (λ (era : Era). era.first) s.eras) t rising (omega arith)

    end_by : (j t : ℕ) (more : Bool) → ltb j (length s.eras) ≡ more
        → (j < length s.eras → t < first_of_era s (j + 1)) → t ≤ s.rounds
        → t < cond more (first_of_era s (j + 1)) (s.rounds + 1)
    end_by j t true is before le = before (ltb-true j (length s.eras) is)
    end_by j t false is before le = omega arith

    pub era_before : (t : ℕ) → t ≤ s.rounds → t < end_of_era s (era_of s t)
    era_before t le = end_by (era_of s t) t (ltb (era_of s t) (length s.eras)) refl
        (λ lt. let before = count_before 0 (map (λ (era : Era). era.first) s.eras) t rising
        (omega (arith, lt, size)) in omega (arith, before, next_first (era_of s t))) le

    -- an era that begins with a configuration is the era of that
    pub begun_era : (j t : ℕ) → j ≤ length s.eras → first_of_era s j ≡ t → era_of s t ≡ j
    begun_era j t le is = count_is 0 (map (λ (era : Era). era.first) s.eras) t j rising
        (omega (arith, size)) (omega (arith, is))
        (λ lt. let next : first_of_era s j < first_of_era s (j + 1) =
        rising j (omega (arith, lt)) in omega (arith, is, next, next_first j))

    -- if the era of a configuration doesn't begin with it, none does
    pub none_begins : (t : ℕ) → (0 < era_of s t → first_of_era s (era_of s t) ≡ t → ⊥)
        → BeginsAt s t None
    none_begins t not j some le is =
        let here = begun_era j t le is in
        not (omega (arith, here, some)) (ap (first_of_era s) here ∙ is)

    -- inside an era none begins
    pub none_inside : (j t : ℕ) → j ≤ length s.eras → first_of_era s j ≤ t → t + 1 < end_of_era s j
        → BeginsAt s (t + 1) None
    none_inside j t le low high = none_begins (t + 1) (λ some is.
        let here = in_era j (t + 1) le (omega arith) high in
        let first = ap (first_of_era s) here in
        omega (arith, first, is, low))

  -- if no era begins, no node is put into a state
  pub none_hit : (t v : ℕ) → BeginsAt s t None → hit_at s t v ≡ None
  none_hit t v none = rw (none_found t s.eras
      (λ k lt is. none (k + 1) (omega arith) (omega arith) (next_first k ∙ is))) refl

  -- an era begins before its end
  pub era_some : IsScript s → (j : ℕ) → j ≤ length s.eras → first_of_era s j < end_of_era s j
  era_some whole j le = by (ltb j (length s.eras)) refl where
    by : (more : Bool) → ltb j (length s.eras) ≡ more
        → first_of_era s j < cond more (first_of_era s (j + 1)) (s.rounds + 1)
    by true is = whole.formed.rising j (let lt = ltb-true j (length s.eras) is in
        omega (arith, lt, size))
    by false is =
        let most : first_of_era s j ≤ s.rounds =
        All-get_or (λ first. first ≤ s.rounds) (firsts s) j 0
        (omega (arith, le, size)) whole.within in
        omega arith

  -- what is before an era's end is played
  pub end_within : IsScript s → (j t : ℕ) → j ≤ length s.eras → t < end_of_era s j → t ≤ s.rounds
  end_within whole j t le before = by (ltb j (length s.eras)) refl before where
    by : (more : Bool) → ltb j (length s.eras) ≡ more
        → t < cond more (first_of_era s (j + 1)) (s.rounds + 1) → t ≤ s.rounds
    by true is lt =
        let more = ltb-true j (length s.eras) is in
        let most : first_of_era s (j + 1) ≤ s.rounds =
        All-get_or (λ first. first ≤ s.rounds) (firsts s) (j + 1) 0
        (omega (arith, more, size)) whole.within in
        omega arith
    by false is lt = omega arith

  pub of_one_era : IsScript s → (t : ℕ) → t ≤ s.rounds → IsOfOneEra s t
  of_one_era whole t le =
      let rising = whole.formed.rising in
      record {
        among = era_within t;
        from = era_from rising t;
        before = era_before rising t le;
        only = λ j within low high. sym (in_era rising j t within low high);
      }
