-- What is heard of a stretch of nodes, the correct ones apart from the liars.
use Rattle.std.proofs.Common.{◌≡◌, ℕ, zero, suc, ◌+◌, ◌-◌, ◌≤◌, Bool, true, false, not}
use Rattle.std.proofs.Common.{if◌then◌else◌, cond, List, [], ◌∷◌, map, length, get_or, take, drop}
use Rattle.std.proofs.Common.{Option, refl, sym, ap, ◌∙◌, arith}
use Rattle.std.specs.List.{filter, range_with_len}
use Rattle.counting.specs.Places.{places}
use Rattle.counting.specs.Values.{count_of}
use Rattle.counting.proofs.Counts.{count_of-cons}
use Rattle.std.proofs.Math.Seq.{drop-cons}
use Rattle.std.proofs.lemmas.Simd.{map-map}
use Rattle.std.proofs.lemmas.Bool.{not-true}
use Rattle.std.proofs.lemmas.List.{length-map, length-take, length-drop}
use Rattle.std.proofs.lemmas.List.Filters.{length-filter_both}

module _ {X : Type 0} (g : X → Option ℕ) (z : Option ℕ) where
  one_more : (x : X) (xs ps qs : List X) (b : Bool)
      → count_of (map g xs) z ≡ count_of (map g ps) z + count_of (map g qs) z
      → count_of (map g (x ∷ xs)) z
      ≡ count_of (map g (cond b (x ∷ ps) ps)) z + count_of (map g (cond (not b) (x ∷ qs) qs)) z
  one_more x xs ps qs true e =
      omega (arith, count_of-cons (g x) (map g xs) z, count_of-cons (g x) (map g ps) z, e)
  one_more x xs ps qs false e =
      omega (arith, count_of-cons (g x) (map g xs) z, count_of-cons (g x) (map g qs) z, e)

  -- a value counts among those that pass, or among those that fail
  pub count_of_parted : (p : X → Bool) (xs : List X)
      → count_of (map g xs) z
      ≡ count_of (map g (filter p xs)) z + count_of (map g (filter (λ x. not (p x)) xs)) z
  count_of_parted p [] = refl
  count_of_parted p (x ∷ xs) =
      one_more x xs (filter p xs) (filter (λ x. not (p x)) xs) (p x) (count_of_parted p xs)

module _ {X : Type 0} (none : X) (told : List X) (p : ℕ → Bool) where
  -- what the node u that passes says: the place is how many before it pass
  abbrev pub told_of : ℕ → X
  told_of u = get_or told (places p u) none

  add_zero : (i : ℕ) → i + 0 ≡ i
  add_zero i = omega arith

  one_further : (i : ℕ) → places p (i + 1) ≡ places p i + (if p i then 1 else 0)
  one_further i = let e : i + 1 ≡ suc i = omega arith in ap (places p) e

  grows : (i count : ℕ) → places p i ≤ places p (i + count)
  grows i zero = omega (arith, ap (places p) (add_zero i))
  grows i (suc count) =
      let e : i + suc count ≡ i + count + 1 = omega arith in
      omega (arith, ap (places p) e, one_further (i + count), grows i count)

  shifted : (i count : ℕ) → places p (i + suc count) ≡ places p (i + 1 + count)
  shifted i count = let e : i + suc count ≡ i + 1 + count = omega arith in ap (places p) e

  -- of a stretch of nodes, those that pass say a stretch of what is said
  pub told_stretch : (count from k : ℕ) → places p from + k ≡ places p (from + count)
      → places p (from + count) ≤ length told
      → map told_of (filter p (range_with_len from count)) ≡ take k (drop (places p from) told)
  told_stretch zero from k e within =
      let none_left : k ≡ 0 = omega (arith, ap (places p) (add_zero from)) in
      ap (λ i. take i (drop (places p from) told)) (sym none_left)
  told_stretch (suc count) from k e within = first (told_stretch count (from + 1)) (p from) refl
    where
      rest : List ℕ
      rest = filter p (range_with_len (from + 1) count)

      further : (b : Bool) → p from ≡ b → places p (from + 1) ≡ places p from + (if b then 1 else 0)
      further b h = one_further from ∙ ap (λ c. places p from + (if c then 1 else 0)) h

      Again : Type 0
      Again =
          (k : ℕ) → places p (from + 1) + k ≡ places p (from + 1 + count)
          → places p (from + 1 + count) ≤ length told
          → map told_of rest ≡ take k (drop (places p (from + 1)) told)

      first : Again → (b : Bool) → p from ≡ b
          → map told_of (cond b (from ∷ rest) rest) ≡ take k (drop (places p from) told)
      first again true h =
          let i = places p from in
          let here : places p (from + 1) ≡ i + 1 = further true h in
          let one_left : k
          ≡ suc (k - 1) = omega (arith, here, shifted from count, grows (from + 1) count) in
          let more = again (k - 1) (omega (arith, here, one_left, shifted from count))
          (omega (arith, shifted from count)) in
          let at : places p (from + 1) ≡ suc i = omega (arith, here) in
          let cons = drop-cons told i none
          (omega (arith, here, shifted from count, grows (from + 1) count)) in
          ap (λ ys. told_of from ∷ ys) (more ∙ ap (λ j. take (k - 1) (drop j told)) at)
          ∙
          (ap (λ ys. take (suc (k - 1)) ys) (sym cons)
          ∙ ap (λ c. take c (drop i told)) (sym one_left))
      first again false h =
          let here = further false h in
          let same : places p (from + 1) ≡ places p from = omega (arith, here) in
          again k (omega (arith, same, shifted from count)) (omega (arith, shifted from count))
          ∙ ap (λ j. take k (drop j told)) same

-- functions that agree where a test passes give one list of those that pass
pub map_passing : {Y : Type 0} → (q : ℕ → Bool) (f g : ℕ → Y) (us : List ℕ)
    → ((u : ℕ) → q u ≡ true → f u ≡ g u) → map f (filter q us) ≡ map g (filter q us)
map_passing q f g [] same = refl
map_passing {Y} q f g (u ∷ us) same = first (q u) refl (map_passing q f g us same)
  where
    first : (b : Bool) → q u ≡ b → map f (filter q us) ≡ map g (filter q us)
        → map f (cond b (u ∷ filter q us) (filter q us))
        ≡ map g (cond b (u ∷ filter q us) (filter q us))
    first true h rest = ap (λ y. y ∷ map f (filter q us)) (same u h) ∙ ap (λ ys. g u ∷ ys) rest
    first false h rest = rest

module _ {X : Type 0} (none : X) (told : List X) (p : ℕ → Bool) (w : X → Option ℕ)
    (true_value : ℕ → Option ℕ) where
  -- the value heard of u: the true one, or of a liar that of what it says
  abbrev pub heard_value : ℕ → Option ℕ
  heard_value u = if p u then w (told_of none told p u) else true_value u

  -- the values heard of a stretch of nodes
  abbrev pub heard_values : (from count : ℕ) → List (Option ℕ)
  heard_values from count = map heard_value (range_with_len from count)

  -- those of its correct nodes
  abbrev pub true_values : (from count : ℕ) → List (Option ℕ)
  true_values from count = map true_value (filter (λ u. not (p u)) (range_with_len from count))

  -- what its liars say, if k of them lie
  abbrev pub told_values : (from k : ℕ) → List (Option ℕ)
  told_values from k = map w (take k (drop (places p from) told))

  module _ (from count k : ℕ) (e : places p from + k ≡ places p (from + count))
      (within : places p (from + count) ≤ length told) where
    -- they say one value each
    pub told_long : length (told_values from k) ≡ k
    told_long =
        length-map (take k (drop (places p from) told)) w
        ∙ omega (
          arith,
          length-take k (drop (places p from) told),
          length-drop (places p from) told,
          grows none told p from count,
          e,
          within,
        )

    us : List ℕ
    us = range_with_len from count

    liars_values : map heard_value (filter p us) ≡ told_values from k
    unfolding us
    liars_values =
        map_passing p heard_value (λ u. w (told_of none told p u)) us
        (λ u h. ap (λ b. if b then w (told_of none told p u) else true_value u) h)
        ∙
        (sym (map-map w (told_of none told p) (filter p us))
        ∙ ap (map w) (told_stretch none told p count from k e within))

    others_values : map heard_value (filter (λ u. not (p u)) us) ≡ true_values from count
    unfolding us
    others_values =
        map_passing (λ u. not (p u)) heard_value true_value us
        (λ u h. ap (λ b. if b then w (told_of none told p u) else true_value u) (not-true (p u) h))

    -- A value counts among the true ones of the correct nodes, or among those in the stretch of
    -- what the liars say.
    pub heard_counts : (z : Option ℕ)
        → count_of (heard_values from count) z
        ≡ count_of (true_values from count) z + count_of (told_values from k) z
    unfolding us
    heard_counts z =
        let parted = count_of_parted heard_value z p us in
        let left = ap (λ ys. count_of ys z) liars_values in
        let right = ap (λ ys. count_of ys z) others_values in
        omega (arith, parted, left, right)

    -- as many values are heard as there are nodes
    pub heard_long : length (heard_values from count)
        ≡ length (true_values from count) + length (told_values from k)
    unfolding us
    heard_long =
        let left = ap length liars_values in
        let right = ap length others_values in
        omega (
          arith,
          left,
          right,
          length-map us heard_value,
          length-map (filter p us) heard_value,
          length-map (filter (λ u. not (p u)) us) heard_value,
          length-filter_both p (λ u. not (p u)) (λ x. refl) us,
        )
