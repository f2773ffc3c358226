-- Where what is told stands among what was told in the order of the pairs.
use Rattle.std.proofs.Common.{◌≡◌, ℕ, zero, suc, ◌+◌, ◌-◌, ◌*◌, ◌<◌, ◌≤◌, Bool, true, false, cond}
use Rattle.std.proofs.Common.{eqb, not, ◌&&◌, List, [], ◌∷◌, ◌++◌, length, map, get_or, drop, refl}
use Rattle.std.proofs.Common.{sym, ap, ◌∙◌, arith, length-append}
use Rattle.std.specs.Prelude.{filter, slice_index}
use Rattle.std.specs.List.{range_with_len, flat_map}
use Rattle.std.specs.List.Sorted.{IsStrictlyIncreasing}
use Rattle.std.proofs.lemmas.Bool.{eq-eqb, ne_eqb, true≢false}
use Rattle.std.proofs.lemmas.List.{get_or-drop, length-map}
use Rattle.std.proofs.lemmas.List.Elements.{filter-append}
use Rattle.std.proofs.lemmas.Nat.{mul-le}
use Rattle.sync_types.specs.States.{State, zero_state}
use Rattle.sync_types.specs.FaultSets.{is_in}
use Rattle.construction.specs.Plans.{Plan, plan_nodes, plan_depth}
use Rattle.construction.specs.Steps.{state_of}
use Rattle.counter_core.proofs.StateLists.{within}
use Rattle.round_runner.specs.Locks.{correct_nodes}
use Rattle.round_runner.proofs.Own.{same_place}
use Rattle.run_checker.specs.Grammar.{pairs_of}
use Rattle.run_checker.specs.Rounds.{told_for}

-- ---- numbers in a row

range_split : (k a m n b : ℕ) → n ≡ k + suc m → a + k ≡ b
    → range_with_len a n ≡ range_with_len a k ++ b ∷ range_with_len (b + 1) m
range_split zero a m n b e at =
    let here : n ≡ suc m = omega (arith, e) in
    let same : a ≡ b = omega (arith, at) in
    ap (range_with_len a) here ∙ ap (λ (c : ℕ). c ∷ range_with_len (c + 1) m) same
range_split (suc k) a m zero b e at = absurd (omega (arith, e))
range_split (suc k) a m (suc n) b e at =
    ap (λ (rest : List ℕ). a ∷ rest)
    (range_split k (a + 1) m n b (omega (arith, e)) (omega (arith, at)))

-- a correct node stands among the correct ones after those before it
abbrev behind : (n v : ℕ) → (faulty : List ℕ) → List ℕ
behind n v faulty = filter (λ u. not (is_in faulty u)) (range_with_len (v + 1) (n - (v + 1)))

pub correct_split : (n v : ℕ) (faulty : List ℕ) → v < n → is_in faulty v ≡ false
    → correct_nodes n faulty ≡ correct_nodes v faulty ++ v ∷ behind n v faulty
correct_split n v faulty lt is =
    let p : ℕ → Bool = λ u. not (is_in faulty u) in
    ap (filter p) (range_split v 0 (n - (v + 1)) n v (omega (arith, lt)) (omega arith))
    ∙ filter-append p (range_with_len 0 v) (v ∷ range_with_len (v + 1) (n - (v + 1)))
    ∙ ap (λ (b : Bool). correct_nodes v faulty
    ++ cond (not b) (v ∷ behind n v faulty) (behind n v faulty)) is

-- so fewer stand before it than there are
pub fewer_before : (n v : ℕ) (faulty : List ℕ) → v < n → is_in faulty v ≡ false
    → length (correct_nodes v faulty) < length (correct_nodes n faulty)
fewer_before n v faulty lt is =
    let size = ap (λ (l : List ℕ). length l) (correct_split n v faulty lt is) in
    let long = length-append (correct_nodes v faulty) (v ∷ behind n v faulty) in
    omega (arith, size, long)

-- ---- pairs

module _ (depth v : ℕ) where
  no_states : (pairs : List (ℕ × ℕ)) (u : ℕ) → told_for depth pairs [] u v ≡ zero_state depth
  no_states [] u = refl
  no_states (p ∷ pairs) u = refl

  -- those of another sender are passed over
  other_row : (w : ℕ) (vs : List ℕ) (after : List (ℕ × ℕ)) (told : List State) (u : ℕ)
      → eqb w u ≡ false → told_for depth (map (λ x. (w, x)) vs ++ after) told u v
      ≡ told_for depth after (drop (length vs) told) u v
  other_row w [] after told u e = refl
  other_row w (x ∷ vs) after [] u e = sym (no_states after u)
  other_row w (x ∷ vs) after (s ∷ told) u e =
      ap (λ (b : Bool). cond (b && eqb x v) s
      (told_for depth (map (λ x. (w, x)) vs ++ after) told u v)) e
      ∙ other_row w vs after told u e

  none_of : (a b : Bool) → b ≡ false → (a && b) ≡ false
  none_of true b e = e
  none_of false b e = refl

  -- among those of a sender, the one of v stands after those of lower nodes
  own_row : (p : ℕ → Bool) (k a : ℕ) (rest : List ℕ) (after : List (ℕ × ℕ)) (told : List State)
      (u : ℕ) → a + k ≤ v
      → told_for depth (map (λ x. (u, x)) (filter p (range_with_len a k) ++ v ∷ rest) ++ after)
      told u v ≡ get_or told (length (filter p (range_with_len a k))) (zero_state depth)
  own_row p zero a rest after [] u le = refl
  own_row p zero a rest after (s ∷ told) u le =
      let here : eqb u u ≡ true = eq-eqb u u refl in
      let there : eqb v v ≡ true = eq-eqb v v refl in
      rw (here, there) refl
  own_row p (suc k) a rest after told u le =
      by (filter p (range_with_len (a + 1) k)) (own_row p k (a + 1) rest after) (p a) told where
        by : (more : List ℕ)
            → ((told : List State) (u : ℕ) → a + 1 + k ≤ v
            → told_for depth (map (λ x. (u, x)) (more ++ v ∷ rest) ++ after) told u v
            ≡ get_or told (length more) (zero_state depth))
            → (b : Bool) (told : List State)
            → told_for depth (map (λ x. (u, x)) (cond b (a ∷ more) more ++ v ∷ rest) ++ after) told
            u v
            ≡ get_or told (length (cond b (a ∷ more) more)) (zero_state depth)
        by more again false told = again told u (omega (arith, le))
        by more again true [] = refl
        by more again true (s ∷ told) =
            ap (λ (b : Bool). cond b s
            (told_for depth (map (λ x. (u, x)) (more ++ v ∷ rest) ++ after) told u v))
            (none_of (eqb u u) (eqb a v) (ne_eqb a v (λ (e : a ≡ v). omega (arith, le, e))))
            ∙ again told u (omega (arith, le))

  -- and if v is none of the receivers, none is
  absent_row : (p : ℕ → Bool) → p v ≡ false → (k a w : ℕ) (after : List (ℕ × ℕ))
      (told : List State) (u : ℕ)
      → told_for depth (map (λ x. (w, x)) (filter p (range_with_len a k)) ++ after) told u v
      ≡ told_for depth after (drop (length (filter p (range_with_len a k))) told) u v
  absent_row p none zero a w after told u = refl
  absent_row p none (suc k) a w after told u =
      by (filter p (range_with_len (a + 1) k)) (absent_row p none k (a + 1) w after) (p a) refl
      told where
        by : (more : List ℕ)
            → ((told : List State) (u : ℕ)
            → told_for depth (map (λ x. (w, x)) more ++ after) told u v
            ≡ told_for depth after (drop (length more) told) u v)
            → (b : Bool) → p a ≡ b → (told : List State)
            → told_for depth (map (λ x. (w, x)) (cond b (a ∷ more) more) ++ after) told u v
            ≡ told_for depth after (drop (length (cond b (a ∷ more) more)) told) u v
        by more again false e told = again told u
        by more again true e [] = sym (no_states after u)
        by more again true e (s ∷ told) =
            ap (λ (b : Bool). cond b s
            (told_for depth (map (λ x. (w, x)) more ++ after) told u v))
            (none_of (eqb w u) (eqb a v) (ne_eqb a v (λ (same : a ≡ v).
            true≢false (sym e ∙ ap p same ∙ none))))
            ∙ again told u

  abbrev rows : (vs ids : List ℕ) → List (ℕ × ℕ)
  rows vs ids = flat_map (λ u. map (λ w. (u, w)) vs) ids

  -- what the j-th sender tells v
  told_in : (vs : List ℕ) (place : ℕ)
      → ((u : ℕ) (after : List (ℕ × ℕ)) (told : List State)
      → told_for depth (map (λ w. (u, w)) vs ++ after) told u v
      ≡ get_or told place (zero_state depth))
      → (ids : List ℕ)
      → ((k j : ℕ) → k < length ids → j < length ids → slice_index ids k ≡ slice_index ids j
      → k ≡ j)
      → (j : ℕ) → j < length ids → (told : List State)
      → told_for depth (rows vs ids) told (slice_index ids j) v
      ≡ get_or told (j * length vs + place) (zero_state depth)
  told_in vs place own [] apart j lt told = absurd (omega (arith, lt))
  told_in vs place own (u ∷ ids) apart zero lt told =
      let at : place ≡ 0 * length vs + place = omega arith in
      own u (rows vs ids) told ∙ ap (λ (k : ℕ). get_or told k (zero_state depth)) at
  told_in vs place own (u ∷ ids) apart (suc j) lt told =
      let w : ℕ = slice_index ids j in
      let other : eqb u w ≡ false = ne_eqb u w (λ (e : u ≡ w).
      let same : 0 ≡ suc j = apart 0 (suc j) (omega arith) lt e in absurd (omega (arith, same)))
      in
      let at : length vs + (j * length vs + place) ≡ suc j * length vs + place = omega arith in
      other_row u vs (rows vs ids) told w other
      ∙ told_in vs place own ids
      (λ k i klt ilt e. let same : suc k ≡ suc i =
      apart (suc k) (suc i) (omega (arith, klt)) (omega (arith, ilt)) e in omega (arith, same))
      j (omega (arith, lt)) (drop (length vs) told)
      ∙ get_or-drop (length vs) told (j * length vs + place) (zero_state depth)
      ∙ ap (λ (k : ℕ). get_or told k (zero_state depth)) at

-- what the j-th faulty node tells a correct one
pub told_at : (depth n v : ℕ) (faulty : List ℕ) → v < n → is_in faulty v ≡ false
    → ((k j : ℕ) → k < length faulty → j < length faulty
    → slice_index faulty k ≡ slice_index faulty j → k ≡ j)
    → (j : ℕ) → j < length faulty → (told : List State)
    → told_for depth (pairs_of n faulty) told (slice_index faulty j) v
    ≡ get_or told (j * length (correct_nodes n faulty) + length (correct_nodes v faulty))
    (zero_state depth)
told_at depth n v faulty lt is apart j jlt told =
    told_in depth v (correct_nodes n faulty) (length (correct_nodes v faulty))
    (λ u after told.
    ap (λ (vs : List ℕ). told_for depth (map (λ w. (u, w)) vs ++ after) told u v)
    (correct_split n v faulty lt is)
    ∙ own_row depth v (λ u. not (is_in faulty u)) v 0 (behind n v faulty) after told u
    (omega arith))
    faulty apart j jlt told

-- a faulty node is given nothing
none_in : (depth n v : ℕ) (faulty : List ℕ) → is_in faulty v ≡ true → (ids : List ℕ)
    (told : List State) (u : ℕ)
    → told_for depth (flat_map (λ w. map (λ x. (w, x)) (correct_nodes n faulty)) ids) told u v
    ≡ zero_state depth
none_in depth n v faulty is [] told u = refl
none_in depth n v faulty is (w ∷ ids) told u =
    absent_row depth v (λ x. not (is_in faulty x)) (ap not is) n 0 w
    (flat_map (λ w. map (λ x. (w, x)) (correct_nodes n faulty)) ids) told u
    ∙ none_in depth n v faulty is ids (drop (length (correct_nodes n faulty)) told) u

pub none_told : (depth n v : ℕ) (faulty : List ℕ) → is_in faulty v ≡ true → (told : List State)
    (u : ℕ) → told_for depth (pairs_of n faulty) told u v ≡ zero_state depth
none_told depth n v faulty is told u = none_in depth n v faulty is faulty told u

-- how many pairs there are
abbrev pub row_of : (vs : List ℕ) → ℕ → List (ℕ × ℕ)
row_of vs u = map (λ w. (u, w)) vs

length-rows : (vs ids : List ℕ) → length (flat_map (row_of vs) ids) ≡ length ids * length vs
length-rows vs [] = let none : 0 ≡ 0 * length vs = omega arith in none
length-rows vs (u ∷ ids) =
    let pair : ℕ → ℕ × ℕ = λ w. (u, w) in
    let row = length-map vs pair in
    let both = length-append (row_of vs u) (flat_map (row_of vs) ids) in
    let rest = length-rows vs ids in
    omega (arith, row, both, rest)

pub length-pairs_of : (n : ℕ) (faulty : List ℕ)
    → length (pairs_of n faulty) ≡ length faulty * length (correct_nodes n faulty)
length-pairs_of n faulty = length-rows (correct_nodes n faulty) faulty

-- ---- what a correct node is told

-- node v is a correct one of a round, of the correct ones before it there are so many, and what the
-- j-th of the faulty nodes tells all of them was told
module _ (plan : Plan) (ids : List ℕ) (told : List State) (v correct before j : ℕ)
    (node : v < plan_nodes plan) (is : is_in ids v ≡ false)
    (all : correct ≡ length (correct_nodes (plan_nodes plan) ids))
    (some : before ≡ length (correct_nodes v ids)) (lt : j < length ids)
    (whole : length told ≡ length (pairs_of (plan_nodes plan) ids)) where
  -- what it tells v is in its place
  pub told_within : j * correct + before < length told
  told_within =
      let few = fewer_before (plan_nodes plan) v ids node is in
      let more : (j + 1) * correct ≤ length ids * correct =
      mul-le (j + 1) correct (length ids) correct (omega (arith, lt)) (omega arith) in
      let sized = ap (λ (m : ℕ). length ids * m) all in
      omega (arith, few, all, some, more, sized, whole, length-pairs_of (plan_nodes plan) ids)

  pub told_there : IsStrictlyIncreasing ids → state_of told (j * correct + before)
      ≡ told_for (plan_depth plan) (pairs_of (plan_nodes plan) ids) told (slice_index ids j) v
  told_there rising =
      within told (j * correct + before) (zero_state 0) (zero_state (plan_depth plan)) told_within
      ∙ ap (λ (m : ℕ). get_or told (j * m + before) (zero_state (plan_depth plan))) all
      ∙ ap (λ (p : ℕ). get_or told (j * length (correct_nodes (plan_nodes plan) ids) + p)
      (zero_state (plan_depth plan))) some
      ∙ sym (told_at (plan_depth plan) (plan_nodes plan) v ids node is (same_place ids rising) j lt
      told)
