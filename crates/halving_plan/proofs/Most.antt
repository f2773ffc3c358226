-- No node of a tree has more bits, and one has so many.
use Rattle.std.proofs.Common.{◌≡◌, ℕ, zero, suc, ◌+◌, ◌-◌, ◌*◌, ◌<◌, ◌≤◌, Bool, true, false, max}
use Rattle.std.proofs.Common.{◌∷◌, refl, ap}
use Rattle.std.proofs.Common.{◌∙◌, subst, inl, inr, arith}
use Rattle.std.specs.Prelude.{nat_lt, if◌then◌else◌}
use Rattle.std.proofs.lemmas.Bool.{cases_lt, lt-ltb, le-ltb, ltb-true, ltb-false}
use Rattle.std.proofs.lemmas.List.Sums.{sum_by-cons}
use Rattle.construction.specs.Widths.{width}
use Rattle.halving_plan.specs.Halves.{Halves, left_period, right_period}
use Rattle.halving_plan.specs.Trees.{Tree, One, Split, tree_nodes, halves_of}
use Rattle.halving_plan.specs.Runs.{Fields, fields_in}
use Rattle.halving_plan.specs.Plans.{HalvingNumbers, IsAccepted, tree_of}
use Rattle.halving_plan.proofs.GroupFields.{with_level, no_fields}
use Rattle.halving_plan.proofs.Sound.{nodes_are}
use Rattle.halving_plan.specs.Sizes.{register_bits, fields_bits, level_bits, most_bits, IsMost}
use Rattle.halving_plan.specs.Sizes.{BitsAreMost}

-- no bits hold the one value that there is
pub width_one : width 1 ≡ 0
unfolding width
width_one = refl

-- two registers more
pub with_level_bits : (halves : Halves) (c : ℕ) (below : Fields)
    → fields_bits (with_level halves c below) ≡ level_bits halves c + fields_bits below
with_level_bits halves c below =
    omega (
      arith,
      sum_by-cons register_bits c (left_period halves ∷ below.moduli),
      sum_by-cons register_bits (left_period halves) below.moduli,
    )

module _ (left right : Tree) (spares c : ℕ) where
  abbrev halves : Halves
  halves = halves_of left right spares

  abbrev n : ℕ
  n = tree_nodes left

  abbrev m : ℕ
  m = tree_nodes right

  abbrev whole : Tree
  whole = Split left right spares

  abbrev below_by : (v : ℕ) (first second : Bool) → Fields
  below_by v first second =
      if first then fields_in left (left_period halves) v
      else if second then fields_in right (right_period halves) (v - n)
      else no_fields

  abbrev below_at : (v : ℕ) → Fields
  below_at v = below_by v (nat_lt v n) (nat_lt v (n + m))

  bits_at : (v : ℕ)
      → fields_bits (fields_in whole c v) ≡ level_bits halves c + fields_bits (below_at v)
  bits_at v = with_level_bits halves c (below_at v)

  module _ (most_left : IsMost (λ v. fields_bits (fields_in left (left_period halves) v)) n
      (most_bits left (left_period halves)))
      (most_right : IsMost (λ v. fields_bits (fields_in right (right_period halves) v)) m
      (most_bits right (right_period halves))) where
    abbrev most : ℕ
    most = max (most_bits left (left_period halves)) (most_bits right (right_period halves))

    below_most : (v : ℕ) (first second : Bool) → nat_lt v n ≡ first → nat_lt v (n + m) ≡ second
        → fields_bits (below_by v first second) ≤ most
    below_most v true second is or =
        let fits = most_left.each v (ltb-true v n is) in omega (arith, fits)
    below_most v false true is or =
        let from = ltb-false v n is in
        let to = ltb-true v (n + m) or in
        let fits = most_right.each (v - n) (omega (arith, from, to)) in omega (arith, fits)
    below_most v false false is or = omega (arith, width_one)

    each_most : (v : ℕ) → fields_bits (fields_in whole c v) ≤ most_bits whole c
    each_most v =
        let fits = below_most v (nat_lt v n) (nat_lt v (n + m)) refl refl in
        omega (arith, bits_at v, fits)

    -- a node of the left half
    at_left : (v : ℕ) → v < n → below_at v ≡ fields_in left (left_period halves) v
    at_left v lt = ap (λ b. below_by v b (nat_lt v (n + m))) (lt-ltb v n lt)

    at_right : (v : ℕ) → v < m → below_at (n + v) ≡ fields_in right (right_period halves) v
    at_right v lt =
        let place : n + v - n ≡ v = omega arith in
        ap (λ b. below_by (n + v) b (nat_lt (n + v) (n + m))) (le-ltb (n + v) n (omega arith))
        ∙ ap (λ b. below_by (n + v) false b) (lt-ltb (n + v) (n + m) (omega (arith, lt)))
        ∙ ap (fields_in right (right_period halves)) place

    most_split : IsMost (λ v. fields_bits (fields_in whole c v)) (tree_nodes whole)
        (most_bits whole c)
    most_split =
        elim
        (cases_lt (most_bits left (left_period halves)) (most_bits right (right_period halves))) [
          | inl lt ↦
              let v = most_right.place in
              let inside = most_right.inside in
              let reached = most_right.reached in
              let there = ap fields_bits (at_right v inside) in
              record {
                each = λ u within. each_most u;
                place = n + v;
                inside = omega (arith, inside);
                reached = omega (arith, bits_at (n + v), there, reached, lt);
              }
          | inr le ↦
              let v = most_left.place in
              let inside = most_left.inside in
              let reached = most_left.reached in
              let there = ap fields_bits (at_left v inside) in
              record {
                each = λ u within. each_most u;
                place = v;
                inside = omega (arith, inside);
                reached = omega (arith, bits_at v, there, reached, le);
              }
        ]

pub most_in : (tree : Tree) (c : ℕ)
    → IsMost (λ v. fields_bits (fields_in tree c v)) (tree_nodes tree) (most_bits tree c)
most_in One c = record {
  each = λ v within. omega arith;
  place = 0;
  inside = omega arith;
  reached = omega arith;
}
most_in (Split left right spares) c =
    let halves = halves_of left right spares in
    most_split left right spares c (most_in left (left_period halves))
    (most_in right (right_period halves))

pub bits_are_most : BitsAreMost
bits_are_most plan accepted =
    subst (λ n. IsMost (λ v. fields_bits (fields_in (tree_of plan) plan.modulus v)) n
    (most_bits (tree_of plan) plan.modulus)) (nodes_are plan accepted)
    (most_in (tree_of plan) plan.modulus)
