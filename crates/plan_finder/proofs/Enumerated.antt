-- The least of all levels that meet a test is what the search finds.
use Rattle.std.proofs.lemmas.List.{append-nil, append_assoc}
use Rattle.std.proofs.lemmas.List.Concat.{flat_map-append}
use Rattle.plan_finder.specs.declared.pots.Pot.{Pot}
use Rattle.std.proofs.Common.{◌≡◌, ℕ, ◌+◌, ◌≤◌, List, [], ◌∷◌, ◌++◌}
use Rattle.std.proofs.Common.{length, reverse, Bool, true, false, cond, refl, sym, ap, ◌∙◌}
use Rattle.std.proofs.Common.{subst, inl, inr, add-one, zero-add, arith}
use Rattle.std.specs.Prelude.{Option, Some, None, nat_lt, ◌==◌, ◌&&◌, ◌||◌}
use Rattle.std.specs.Option.{option_map}
use Rattle.std.specs.List.{flat_map, filter, range_with_len}
use Rattle.std.proofs.lemmas.Bool.{and_parts, and_from, ltb-true, lt-ltb}
use Rattle.std.proofs.lemmas.Bool.{eqb-true, eq-eqb, true≢false, or_cases}
use Rattle.construction.specs.Plans.{Level, Plan, nodes_of, faults_of}
use Rattle.plan_numbers.proofs.Spans.{depth_most}
use Rattle.plan_finder.specs.declared.best.Best.{Best}
use Rattle.plan_finder.specs.Steps.{IsPath}
use Rattle.plan_finder.specs.Orders.{IsLess, rank_of}
use Rattle.plan_finder.specs.Costs.{Reaches}
use Rattle.plan_finder.specs.Best.{steps_in, levels_in, IsBestOf, HasFaults}
use Rattle.plan_finder.specs.Building.{plan_with, IsBuilt}
use Rattle.plan_finder.specs.Least.{is_less, is_path, all_levels, first_of}
use Rattle.plan_finder.specs.Least.{least_of, least_levels, has_faults, reaches, find_plan, pot_if}
use Rattle.plan_finder.specs.Least.{pots_at}
use Rattle.plan_finder.proofs.Orders.{less_then, less_below, less_irreflexive}
use Rattle.plan_finder.proofs.Sets.{path_deep, path_few}
use Rattle.plan_finder.proofs.Members.{IsIn, in_filter, from_filter}
use Rattle.plan_finder.proofs.Members.{range_push}
use Rattle.plan_finder.proofs.AllLevels.{AreFew, IsPlain, few_path, from_all, in_all, path_from}
use Rattle.plan_finder.proofs.AllLevels.{path_true, plain_down, plain_tie}

-- ---- the least of a list

or_right : (a b : Bool) → b ≡ true → (a || b) ≡ true
or_right true b holds = refl
or_right false b holds = holds

true_less : (xs ys : List ℕ) → IsLess xs ys → is_less xs ys ≡ true
true_less xs [] less = absurd less
true_less [] (y ∷ ys) less = refl
true_less (x ∷ xs) (y ∷ ys) (inl lt) = ap (λ b. b || (x == y && is_less xs ys)) (lt-ltb x y lt)
true_less (x ∷ xs) (y ∷ ys) (inr (e, less)) =
    or_right (nat_lt x y) (x == y && is_less xs ys)
    (and_from (x == y) (is_less xs ys) (eq-eqb x y e) (true_less xs ys less))

less_true : (xs ys : List ℕ) → is_less xs ys ≡ true → IsLess xs ys
less_true xs [] holds = absurd (true≢false (sym holds))
less_true [] (y ∷ ys) holds = tt
less_true (x ∷ xs) (y ∷ ys) holds = elim (or_cases (nat_lt x y) (x == y && is_less xs ys) holds) [
  | inl lt ↦ inl (ltb-true x y lt)
  | inr both ↦ let parts = and_parts (x == y) (is_less xs ys) both in
      inr (eqb-true x y parts.0, less_true xs ys parts.1)
]

abbrev pub IsLeastIn : List (List Level) → Option (List Level) → Type 0
IsLeastIn xs None = (y : List Level) → ¬ IsIn y xs
IsLeastIn xs (Some x) =
    IsIn x xs × ((y : List Level) → IsIn y xs → ¬ IsLess (rank_of y) (rank_of x))

not_itself : (x y : List Level) → x ≡ y → ¬ IsLess (rank_of y) (rank_of x)
not_itself x y same less =
    less_irreflexive (rank_of x) (subst (λ ls. IsLess (rank_of ls) (rank_of x)) (sym same) less)

first_by : (levels other : List Level) (others : List (List Level)) (b : Bool)
    → is_less (rank_of other) (rank_of levels) ≡ b
    → IsLeastIn others (Some other) → IsLeastIn (levels ∷ others) (Some (cond b other levels))
first_by levels other others true test (is, least) =
    let earlier = less_true (rank_of other) (rank_of levels) test in (
      inr is,
      λ y is_in less. elim is_in [
        | inl same ↦ less_irreflexive (rank_of other)
            (less_then (rank_of other) (rank_of levels) (rank_of other) earlier
            (subst (λ ls. IsLess (rank_of ls) (rank_of other)) (sym same) less))
        | inr behind ↦ least y behind less
      ],
    )
first_by levels other others false test (is, least) =
    let not_earlier : ¬ IsLess (rank_of other) (rank_of levels) = λ less. true≢false
    (sym (true_less (rank_of other) (rank_of levels) less) ∙ test) in (
      inl refl,
      λ y is_in less. elim is_in [
        | inl same ↦ not_itself levels y same less
        | inr behind ↦ least y behind
            (less_below (rank_of y) (rank_of levels) (rank_of other) less not_earlier)
      ],
    )

first_is : (levels : List Level) (others : List (List Level)) (o : Option (List Level))
    → IsLeastIn others o
    → IsLeastIn (levels ∷ others) (Some (first_of levels o))
first_is levels others None none = (
  inl refl,
  λ y is_in less. elim is_in [
    | inl same ↦ not_itself levels y same less
    | inr behind ↦ none y behind
  ],
)
first_is levels others (Some other) is =
    first_by levels other others (is_less (rank_of other) (rank_of levels)) refl is

pub least_is : (xs : List (List Level)) → IsLeastIn xs (least_of xs)
least_is [] = λ y is. is
least_is (levels ∷ others) = first_is levels others (least_of others) (least_is others)

-- ---- what the search finds

module _ (most : ℕ) (some : 1 ≤ most) (limit : most ≤ 256) (set : List Level → Type 0)
    (test : List Level → Bool)
    (path : (levels : List Level) → set levels → IsPath most levels)
    (holds : (levels : List Level) → set levels → test levels ≡ true)
    (from : (levels : List Level) → IsPlain levels → AreFew levels → test levels ≡ true
    → set levels)
  where
    listed : (best : Best) → set (levels_in best)
        → IsIn (levels_in best) (filter test (all_levels 5))
    listed best in_set =
        let is : IsPath most (levels_in best) = path (levels_in best) in_set in
        let deep : length (levels_in best) ≤ 5 =
        depth_most (length (levels_in best)) (nodes_of (levels_in best))
        (path_deep most (levels_in best) is)
        (omega (arith, path_few most (levels_in best) some is, limit)) in
        in_filter test (levels_in best) (all_levels 5) (holds (levels_in best) in_set)
        (in_all 5 (levels_in best) (plain_down (reverse (steps_in best)))
        (few_path most (levels_in best) is) deep)

    pub in_set_of : (levels : List Level) → IsIn levels (filter test (all_levels 5)) → set levels
    in_set_of levels is =
        let parts = from_filter test levels (all_levels 5) is in
        let all = from_all 5 levels parts.1 in
        from levels all.0 all.1 parts.0

    found_by : (cell : Option Best) (o : Option (List Level)) → IsBestOf set cell
        → IsLeastIn (filter test (all_levels 5)) o
        → option_map levels_in cell ≡ o
    found_by None None none least = refl
    found_by None (Some levels) none least = absurd (none levels (in_set_of levels least.0))
    found_by (Some best) None is least = absurd (least (levels_in best) (listed best is.member))
    found_by (Some best) (Some levels) is least =
        let parts = from_filter test levels (all_levels 5) least.0 in
        let all = from_all 5 levels parts.1 in
        ap Some (plain_tie (levels_in best) levels (plain_down (reverse (steps_in best))) all.0
        (least.1 (levels_in best) (listed best is.member))
        (is.least levels (in_set_of levels least.0)))

    pub found_least : (cell : Option Best) → IsBestOf set cell
        → option_map levels_in cell ≡ least_levels test
    found_least cell is =
        found_by cell (least_levels test) is (least_is (filter test (all_levels 5)))

-- ---- the plan, and the pairs

module _ (most : ℕ) (some : 1 ≤ most) (limit : most ≤ 256) (f : ℕ) where
  pub faults_yes : (levels : List Level) → HasFaults most f (most + 1) levels
      → has_faults most f levels ≡ true
  faults_yes levels has =
      and_from (is_path most levels) (faults_of levels == f) (path_true most levels has.path)
      (eq-eqb (faults_of levels) f has.faults)

  pub faults_from : (levels : List Level) → IsPlain levels → AreFew levels
      → has_faults most f levels ≡ true → HasFaults most f (most + 1) levels
  faults_from levels plain few holds =
      let parts = and_parts (is_path most levels) (faults_of levels == f) holds in
      let is = path_from most levels plain few parts.0 in
      record {
        path = is;
        faults = eqb-true (faults_of levels) f parts.1;
        nodes = omega (arith, path_few most levels some is);
      }

  built_plan : (c : ℕ) (best : Option Best) (plan : Option Plan) → IsBuilt c best plan
      → plan ≡ option_map (plan_with c) (option_map levels_in best)
  built_plan c None plan built = built
  built_plan c (Some best) plan built = built.0

  pub plan_found : (c : ℕ) (best : Option Best) (plan : Option Plan)
      → IsBestOf (HasFaults most f (most + 1)) best → IsBuilt c best plan
      → plan ≡ find_plan f c most
  plan_found c best plan is built =
      built_plan c best plan built
      ∙ ap (option_map (plan_with c))
      (found_least most some limit (HasFaults most f (most + 1)) (has_faults most f)
      (λ levels has. has.path) faults_yes faults_from best is)

module _ (most : ℕ) (some : 1 ≤ most) (limit : most ≤ 256) (n f : ℕ) where
  pub reaches_yes : (levels : List Level) → Reaches most n f levels → reaches most n f levels ≡ true
  reaches_yes levels has =
      and_from (is_path most levels) ((nodes_of levels == n) && (faults_of levels == f))
      (path_true most levels has.path)
      (and_from (nodes_of levels == n) (faults_of levels == f)
      (eq-eqb (nodes_of levels) n has.nodes) (eq-eqb (faults_of levels) f has.faults))

  pub reaches_from : (levels : List Level) → IsPlain levels → AreFew levels
      → reaches most n f levels ≡ true → Reaches most n f levels
  reaches_from levels plain few holds =
      let parts = and_parts (is_path most levels)
      ((nodes_of levels == n) && (faults_of levels == f)) holds in
      let both = and_parts (nodes_of levels == n) (faults_of levels == f) parts.1 in
      record {
        path = path_from most levels plain few parts.0;
        nodes = eqb-true (nodes_of levels) n both.0;
        faults = eqb-true (faults_of levels) f both.1;
      }

  pub pair_found : (cell : Option Best) → IsBestOf (Reaches most n f) cell
      → pot_if n f (option_map levels_in cell) ≡ pots_at most n f
  pair_found cell is =
      ap (pot_if n f)
      (found_least most some limit (Reaches most n f) (reaches most n f)
      (λ levels has. has.path) reaches_yes reaches_from cell is)

-- ---- the pairs, row by row

pub row_push : (most n f : ℕ) → flat_map (pots_at most n) (range_with_len 0 (f + 1))
    ≡ flat_map (pots_at most n) (range_with_len 0 f) ++ pots_at most n f
row_push most n f =
    let next : range_with_len 0 (f + 1)
    ≡ range_with_len 0 f ++ (0 + f) ∷ [] = ap (range_with_len 0) (add-one f)
    ∙ range_push 0 f in
    ap (flat_map (pots_at most n)) next
    ∙ (flat_map-append (pots_at most n) (range_with_len 0 f) ((0 + f) ∷ [])
    ∙
    (ap (λ xs. flat_map (pots_at most n) (range_with_len 0 f) ++ xs)
    (append-nil (pots_at most n (0 + f)))
    ∙ ap (λ g. flat_map (pots_at most n) (range_with_len 0 f) ++ pots_at most n g) (zero-add f)))

-- the pairs of all rows before one
abbrev pub rows_before : (most width n : ℕ) → List Pot
rows_before most width n =
    flat_map (λ m. flat_map (pots_at most m) (range_with_len 0 width)) (range_with_len 0 n)

pub rows_push : (most width n : ℕ) → rows_before most width (n + 1)
    ≡ rows_before most width n ++ flat_map (pots_at most n) (range_with_len 0 width)
rows_push most width n =
    let row : ℕ → List Pot = λ m. flat_map (pots_at most m) (range_with_len 0 width) in
    let next : range_with_len 0 (n + 1)
    ≡ range_with_len 0 n ++ (0 + n) ∷ [] = ap (range_with_len 0) (add-one n)
    ∙ range_push 0 n in
    ap (flat_map row) next
    ∙ (flat_map-append row (range_with_len 0 n) ((0 + n) ∷ [])
    ∙ (ap (λ xs. flat_map row (range_with_len 0 n) ++ xs) (append-nil (row (0 + n)))
    ∙ ap (λ m. flat_map row (range_with_len 0 n) ++ row m) (zero-add n)))

-- one pair more in a row
pub row_more : (most width n f : ℕ) (pots more : List Pot)
    → pots ≡ rows_before most width n ++ flat_map (pots_at most n) (range_with_len 0 f)
    → more ≡ pots_at most n f
    → pots ++ more
    ≡ rows_before most width n ++ flat_map (pots_at most n) (range_with_len 0 (f + 1))
row_more most width n f pots more before is =
    let rows = rows_before most width n in
    let row = flat_map (pots_at most n) (range_with_len 0 f) in
    ap (λ xs. xs ++ more) before
    ∙ (append_assoc rows row more
    ∙ (ap (λ xs. rows ++ (row ++ xs)) is
    ∙ ap (λ xs. rows ++ xs) (sym (row_push most n f))))
