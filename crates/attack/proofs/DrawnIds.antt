-- The faulty nodes that are drawn: rising ids of nodes, and no more than are asked for.
use Rattle.std.proofs.Common.{◌≡◌, ℕ, zero, suc, ◌+◌, ◌<◌, ◌≤◌, Bool, not, ◌&&◌, ◌||◌, List}
use Rattle.std.proofs.Common.{true, false}
use Rattle.std.proofs.Common.{[], ◌∷◌, length, take, drop, All, refl, sym, ap, ap₂, ◌∙◌, arith}
use Rattle.std.proofs.Common.{inl, inr}
use Rattle.std.proofs.Common.{mod-lt, ◌%◌, ◌*◌, get_or}
use Rattle.std.specs.Prelude.{nat_eq, filter, ◌==◌, if◌then◌else◌}
use Rattle.std.specs.List.{range_with_len, remove, IsDistinct}
use Rattle.std.specs.List.Sorted.{IsStrictlyIncreasing}
use Rattle.std.specs.Cmp.{nat_eq_equiv, unsigned_Decides}
use Rattle.std.proofs.lemmas.Bool.{cases_lt, eqb-true, eq-eqb, and_from, le-ltb, lt-ltb}
use Rattle.std.proofs.lemmas.Bool.Decides.{nat_tests}
use Rattle.std.proofs.lemmas.List.Edits.{length-remove, get_or-remove_below, get_or-remove_above}
use Rattle.std.proofs.lemmas.List.Elements.{All-append, All-take, All-drop, All-filter}
use Rattle.std.proofs.lemmas.List.Elements.{All-head, All-tail}
use Rattle.std.proofs.lemmas.List.Elements.{filter_agree}
use Rattle.std.proofs.lemmas.List.Filters.{length-filter_both}
use Rattle.std.proofs.lemmas.List.FromFn.{length-range_with_len, get_or-range_with_len}
use Rattle.std.proofs.lemmas.List.FromFn.{length-map-range_with_len, get_or-map-range_with_len}
use Rattle.std.proofs.lemmas.List.Kept.{IsStrictlyIncreasing-filter, AllPairs-from_increasing}
use Rattle.std.proofs.lemmas.List.Folds.{list_any_at}
use Rattle.std.proofs.lemmas.Map.Made.{is_member-filter, length-le_from_is_member}
use Rattle.std.proofs.lemmas.Map.Made.{IsDistinct-from_AllPairs}
use Rattle.sync_types.specs.FaultSets.{is_in}
use Rattle.adversary_script.specs.ScriptPart.{IsTolerated}
use Rattle.attack.specs.Draws.{drawn, below}
use Rattle.attack.specs.FaultyIds.{is_among, others, left_over, chosen, king_at, place_past}
use Rattle.attack.specs.FaultyIds.{kings_but}

-- ---- ranges

below_range : (a n m : ℕ) → a + n ≤ m → All (λ v. v < m) (range_with_len a n)
below_range a n m within i d lt =
    let size = length-range_with_len a n in
    omega (arith, size, get_or-range_with_len a n i d (omega (arith, size)))

rising_range : (a n : ℕ) → IsStrictlyIncreasing (range_with_len a n)
rising_range a n k lt =
    let size = length-range_with_len a n in
    omega (
      arith,
      get_or-range_with_len a n k 0 (omega (arith, size)),
      get_or-range_with_len a n (k + 1) 0 (omega (arith, size)),
    )

in_range : (n u : ℕ) → u < n → is_in (range_with_len 0 n) u ≡ true
in_range n u lt =
    list_any_at (λ id. nat_eq u id) (range_with_len 0 n) u 0
    (omega (arith, length-range_with_len 0 n))
    (eq-eqb _ _ (sym (get_or-range_with_len 0 n u 0 lt ∙ omega arith)))

-- ---- the others

distinct : (ids : List ℕ) → IsStrictlyIncreasing ids → IsDistinct nat_eq ids
distinct ids rising =
    IsDistinct-from_AllPairs unsigned_Decides ids
    (λ i j d lt within same. let less = AllPairs-from_increasing ids rising i j d lt within in
    absurd (omega (arith, less, same)))

-- an id that is among some below n is below n
below_by : (n : ℕ) (ids : List ℕ) (id u : ℕ) (same : Bool) → (u == id) ≡ same → id < n
    → (is_in ids u ≡ true → u < n) → (same || is_in ids u) ≡ true → u < n
below_by n ids id u true same first others is = omega (arith, first, eqb-true u id same)
below_by n ids id u false other first others is = others is

id_below : (n : ℕ) (ids : List ℕ) (u : ℕ) → All (λ id. id < n) ids → is_in ids u ≡ true → u < n
id_below n [] u all is = absurd cc
id_below n (id ∷ ids) u all is =
    below_by n ids id u (u == id) refl (All-head (λ id. id < n) id ids all)
    (id_below n ids u (All-tail (λ id. id < n) id ids all)) is

kept_is : (p : ℕ → Bool) (n u : ℕ) → is_in (filter p (range_with_len 0 n)) u
    ≡ (is_in (range_with_len 0 n) u && p u)
kept_is p n u =
    is_member-filter nat_eq_equiv p u (λ x same. ap p (eqb-true u x same)) (range_with_len 0 n)

module _ (n : ℕ) (ids : List ℕ) where
  pub others_rise : IsStrictlyIncreasing (others n ids)
  others_rise =
      IsStrictlyIncreasing-filter (λ id. not (is_among ids id)) (range_with_len 0 n)
      (rising_range 0 n)

  pub others_below : All (λ id. id < n) (others n ids)
  others_below =
      All-filter (λ id. not (is_among ids id)) (λ id. id < n) (range_with_len 0 n)
      (below_range 0 n n (omega arith))

  -- of n nodes at most so many are others as these are not
  module _ (rising : IsStrictlyIncreasing ids) (ids_below : All (λ id. id < n) ids) where
    abbrev all : List ℕ
    all = range_with_len 0 n

    abbrev rest : ℕ → Bool
    rest u = not (is_in ids u)

    no_more : length ids ≤ length (filter (is_in ids) all)
    no_more =
        length-le_from_is_member nat_eq_equiv ids (filter (is_in ids) all) (distinct ids rising)
        (λ u is. kept_is (is_in ids) n u
        ∙ and_from _ _ (in_range n u (id_below n ids u ids_below is)) is)

    same_test : (u v : ℕ) → (u == v) ≡ (v == u)
    same_test u v = grind (arith, nat_tests)

    among_is : (us : List ℕ) (v : ℕ) → is_among us v ≡ is_in us v
    among_is [] v = refl
    among_is (u ∷ us) v = ap₂ (λ (a b : Bool). a || b) (same_test u v) (among_is us v)

    pub others_few : length (others n ids) + length ids ≤ n
    others_few =
        let same = ap length (filter_agree (λ id. not (is_among ids id)) rest
        (λ u. ap not (among_is ids u)) all) in
        let both = length-filter_both (is_in ids) rest (λ u. refl) all in
        omega (arith, same, both, no_more, length-range_with_len 0 n)

-- ---- ids that are taken away

less_by : (none : Bool) (value count : ℕ) → 0 < count
    → (if none then 0 else value % count) < count
less_by true value count some = some
less_by false value count some = mod-lt value some

pub below_less : (seed place count : ℕ) → 0 < count → below seed place count < count
unfolding below
below_less seed place count some = less_by (count == 0) (drawn seed place) count some

module _ (ids : List ℕ) (place : ℕ) (lt : place < length ids) where
  rising_without : IsStrictlyIncreasing ids → IsStrictlyIncreasing (remove ids place)
  rising_without rising k within =
      let size = length-remove ids place lt in
      let here = rising k (omega (arith, size, within)) in
      let next = rising (k + 1) (omega (arith, size, within)) in
      elim (cases_lt k place) [
        | inl before ↦ elim (cases_lt (k + 1) place) [
          | inl also ↦ omega (
            arith,
            here,
            get_or-remove_below ids place 0 k before lt,
            get_or-remove_below ids place 0 (k + 1) also lt,
          )
          | inr from ↦ omega (
            arith,
            here,
            next,
            get_or-remove_below ids place 0 k before lt,
            get_or-remove_above ids place 0 (k + 1) from lt,
          )
        ]
        | inr from ↦ omega (
          arith,
          next,
          get_or-remove_above ids place 0 k from lt,
          get_or-remove_above ids place 0 (k + 1) (omega (arith, from)) lt,
        )
      ]

  all_without : (n : ℕ) → All (λ id. id < n) ids → All (λ id. id < n) (remove ids place)
  all_without n all =
      All-append (λ id. id < n) (take place ids) (drop (suc place) ids)
      (All-take (λ id. id < n) place ids all) (All-drop (λ id. id < n) (suc place) ids all)

-- what is left of n ids when so many are taken away
record IsLeft (n count : ℕ) (ids : List ℕ) : Type 0 where
  rising : IsStrictlyIncreasing ids
  below : All (λ id. id < n) ids
  size : length ids + count ≡ n

left_is : (seed n count : ℕ) → count ≤ n
    → IsLeft n count (left_over seed (range_with_len 0 n) count)
unfolding left_over
left_is seed n zero few = record {
  rising = rising_range 0 n;
  below = below_range 0 n n (omega arith);
  size = omega (arith, length-range_with_len 0 n);
}
left_is seed n (suc count) few =
    let rest = left_over seed (range_with_len 0 n) count in
    let is = left_is seed n count (omega arith) in
    let size = is.size in
    let place = below seed count (length rest) in
    let lt : place < length rest = below_less seed count (length rest) (omega (arith, size)) in
    let shorter = length-remove rest place lt in
    record {
      rising = rising_without rest place lt is.rising;
      below = all_without rest place lt n is.below;
      size = omega (arith, size, shorter);
    }

-- ---- ids that are chosen

module _ (seed n count : ℕ) (among : count ≤ n) where
  pub chosen_borne : IsTolerated n count (chosen seed n count)
  unfolding chosen
  chosen_borne =
      let left = left_over seed (range_with_len 0 n) count in
      let is = left_is seed n count among in
      let size = is.size in
      let few = others_few n left is.rising is.below in
      record {
        rising = others_rise n left;
        ids = others_below n left;
        few = omega (arith, size, few);
      }

-- ---- kings

king_low : (left place : ℕ) → place ≤ left → king_at left place ≡ place
king_low left place low =
    ap (λ (b : Bool). if b then place + 2 * left else place) (le-ltb left place low)

king_high : (left place : ℕ) → left < place → king_at left place ≡ place + 2 * left
king_high left place high =
    ap (λ (b : Bool). if b then place + 2 * left else place) (lt-ltb left place high)

past_low : (without i : ℕ) → i < without → place_past without i ≡ i
past_low without i low = ap (λ (b : Bool). if b then i else i + 1) (lt-ltb i without low)

past_high : (without i : ℕ) → without ≤ i → place_past without i ≡ i + 1
past_high without i high = ap (λ (b : Bool). if b then i else i + 1) (le-ltb i without high)

king_rises : (left a b : ℕ) → a < b → king_at left a < king_at left b
king_rises left a b lt = elim (cases_lt left a) [
  | inl high ↦
      omega (arith, king_high left a high, king_high left b (omega (arith, high, lt)), lt)
  | inr low ↦ elim (cases_lt left b) [
    | inl high ↦ omega (arith, king_low left a low, king_high left b high, lt)
    | inr also ↦ omega (arith, king_low left a low, king_low left b also, lt)
  ]
]

king_most : (left place : ℕ) → king_at left place ≤ place + 2 * left
king_most left place = elim (cases_lt left place) [
  | inl high ↦ omega (arith, king_high left place high)
  | inr low ↦ omega (arith, king_low left place low)
]

past_rises : (without i : ℕ) → place_past without i < place_past without (i + 1)
past_rises without i = elim (cases_lt i without) [
  | inl low ↦ elim (cases_lt (i + 1) without) [
    | inl also ↦ omega (arith, past_low without i low, past_low without (i + 1) also)
    | inr high ↦ omega (arith, past_low without i low, past_high without (i + 1) high)
  ]
  | inr high ↦
      omega (arith, past_high without i high, past_high without (i + 1) (omega (arith, high)))
]

past_most : (without i : ℕ) → place_past without i ≤ i + 1
past_most without i = elim (cases_lt i without) [
  | inl low ↦ omega (arith, past_low without i low)
  | inr high ↦ omega (arith, past_high without i high)
]

module _ (left without count : ℕ) where
  abbrev king : ℕ → ℕ
  king i = king_at left (place_past without i)

  kings_long : length (kings_but left without count) ≡ count
  kings_long = length-map-range_with_len king 0 count

  king_there : (i d : ℕ) → i < count → get_or (kings_but left without count) i d ≡ king i
  king_there i d lt = get_or-map-range_with_len king 0 count i i d lt (omega arith)

  kings_rise : IsStrictlyIncreasing (kings_but left without count)
  kings_rise k lt =
      omega (
        arith,
        king_there k 0 (omega (arith, lt, kings_long)),
        king_there (k + 1) 0 (omega (arith, lt, kings_long)),
        king_rises left (place_past without k) (place_past without (k + 1)) (past_rises without k),
      )

  pub kings_borne : (n : ℕ) → count + 2 * left < n
      → IsTolerated n count (kings_but left without count)
  kings_borne n inside = record {
    rising = kings_rise;
    ids = λ i d lt.
        omega (
          arith,
          king_there i d (omega (arith, lt, kings_long)),
          king_most left (place_past without i),
          past_most without i,
          inside,
          lt,
          kings_long,
        );
    few = omega (arith, kings_long);
  }
