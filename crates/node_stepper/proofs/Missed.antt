-- A node that hears N - F correct nodes, itself among them, may miss all others.
use Rattle.std.proofs.Common.{◌≡◌, ℕ, ◌+◌, ◌<◌, ◌≤◌, Bool, true, false, not, ◌&&◌, List}
use Rattle.std.proofs.Common.{length, All, refl, sym, ap, subst, ◌∙◌, arith}
use Rattle.std.specs.Prelude.{nat_eq, filter}
use Rattle.std.specs.List.{range_with_len, IsDistinct}
use Rattle.std.specs.List.Sorted.{IsStrictlyIncreasing}
use Rattle.std.specs.Cmp.{nat_eq_equiv, unsigned_Decides}
use Rattle.std.proofs.lemmas.Bool.{eqb-true, eq-eqb, and_from}
use Rattle.std.proofs.lemmas.List.Elements.{All-filter}
use Rattle.std.proofs.lemmas.List.Filters.{length-filter_both}
use Rattle.std.proofs.lemmas.List.FromFn.{length-range_with_len, get_or-range_with_len}
use Rattle.std.proofs.lemmas.List.Kept.{IsStrictlyIncreasing-filter, AllPairs-from_increasing}
use Rattle.std.proofs.lemmas.List.Folds.{list_any_at}
use Rattle.std.proofs.lemmas.Map.Made.{is_member-filter, length-le_from_is_member}
use Rattle.std.proofs.lemmas.Map.Made.{IsDistinct-from_AllPairs}
use Rattle.construction.specs.Runs.{is_in}
use Rattle.counter_core.proofs.Heeded.{place_of}
use Rattle.machines.specs.Machines.{Machine, IsToleratedBy}
use Rattle.node_stepper.specs.NodeRuns.{IsCorrect}
use Rattle.node_stepper.specs.Losses.{AreMissed}
use Rattle.node_stepper.specs.Missed.{HearsEnough, others_of, OthersAreMissed}

-- what holds of all ids holds of each that is among them
of_each : (P : ℕ → Type 0) (ids : List ℕ) → All P ids → (u : ℕ) → is_in ids u ≡ true → P u
of_each P ids all u is =
    let place = place_of ids u is in
    subst P place.2 (all place.0 0 place.1)

distinct : (ids : List ℕ) → IsStrictlyIncreasing ids → IsDistinct nat_eq ids
distinct ids rising =
    IsDistinct-from_AllPairs unsigned_Decides ids
    (λ i j d lt within same. let less = AllPairs-from_increasing ids rising i j d lt within in
    absurd (omega (arith, less, same)))

below_range : (n : ℕ) → All (λ v. v < n) (range_with_len 0 n)
below_range n =
    λ i d l. let is = get_or-range_with_len 0 n i d
    (subst (λ m. i < m) (length-range_with_len 0 n) l) in
    omega (arith, is, l, length-range_with_len 0 n)

rising_range : (n : ℕ) → IsStrictlyIncreasing (range_with_len 0 n)
rising_range n =
    λ k l. let size = length-range_with_len 0 n in
    omega (
      arith,
      get_or-range_with_len 0 n k 0 (omega (arith, size)),
      get_or-range_with_len 0 n (k + 1) 0 (omega (arith, size)),
    )

in_range : (n u : ℕ) → u < n → is_in (range_with_len 0 n) u ≡ true
in_range n u lt =
    list_any_at (λ id. nat_eq u id) (range_with_len 0 n) u 0
    (omega (arith, length-range_with_len 0 n))
    (eq-eqb _ _ (sym (get_or-range_with_len 0 n u 0 lt ∙ omega arith)))

none_both : (b : Bool) → (b && false) ≡ false
none_both true = refl
none_both false = refl

-- the nodes that pass a test
kept_is : (p : ℕ → Bool) (n u : ℕ) → is_in (filter p (range_with_len 0 n)) u
    ≡ (is_in (range_with_len 0 n) u && p u)
kept_is p n u =
    is_member-filter nat_eq_equiv p u (λ x same. ap p (eqb-true u x same)) (range_with_len 0 n)

module _ (m : Machine) (faulty heard : List ℕ) (v : ℕ) (borne : IsToleratedBy m faulty)
    (hears : HearsEnough m faulty heard v) where
  abbrev all : List ℕ
  all = range_with_len 0 m.nodes

  abbrev rest : ℕ → Bool
  rest u = not (is_in heard u)

  correct : (u : ℕ) → is_in heard u ≡ true → IsCorrect m faulty u
  correct u is = of_each (IsCorrect m faulty) heard hears.correct u is

  -- the heard nodes are among all nodes
  no_more : length heard ≤ length (filter (is_in heard) all)
  no_more =
      length-le_from_is_member nat_eq_equiv heard (filter (is_in heard) all)
      (distinct heard hears.rising)
      (λ u is. kept_is (is_in heard) m.nodes u
      ∙ and_from _ _ (in_range m.nodes u (correct u is).0) is)

  few : length (filter rest all) ≤ m.faults
  few =
      let both = length-filter_both (is_in heard) rest (λ u. refl) all in
      omega (arith, both, no_more, hears.many, length-range_with_len 0 m.nodes)

  -- a faulty node is not heard
  not_heard : (u : ℕ) → is_in faulty u ≡ true → (b : Bool) → is_in heard u ≡ b
      → is_in (filter rest all) u ≡ true
  not_heard u bad true is =
      let both : true ≡ false = sym bad ∙ (correct u is).1 in absurd cc
  not_heard u bad false is =
      kept_is rest m.nodes u
      ∙ and_from _ _ (in_range m.nodes u (of_each (λ id. id < m.nodes) faulty borne.ids u bad))
      (ap not is)

  not_own : is_in (filter rest all) v ≡ false
  not_own =
      kept_is rest m.nodes v
      ∙ ap (λ b. is_in all v && not b) hears.own
      ∙ none_both (is_in all v)

  pub are_missed : AreMissed m faulty v (others_of m heard)
  are_missed = record {
    few = record {
      rising = IsStrictlyIncreasing-filter rest all (rising_range m.nodes);
      ids = All-filter rest (λ id. id < m.nodes) all (below_range m.nodes);
      few = few;
    };
    faulty_too = λ u bad. not_heard u bad (is_in heard u) refl;
    not_own = not_own;
  }

pub others_are_missed : OthersAreMissed
others_are_missed m faulty heard v borne hears = are_missed m faulty heard v borne hears
