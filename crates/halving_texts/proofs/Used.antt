-- Some node of a tree has each register.
use Rattle.std.proofs.Common.{◌≡◌, ℕ, zero, suc, ◌+◌, ◌-◌, ◌<◌, ◌≤◌, Bool, false}
use Rattle.std.proofs.Common.{get_or, sym, ap, ◌∙◌, subst, inl, inr}
use Rattle.std.proofs.Common.{arith}
use Rattle.std.specs.Prelude.{nat_lt, if◌then◌else◌}
use Rattle.std.proofs.lemmas.Bool.{cases_lt, lt-ltb, le-ltb}
use Rattle.halving_plan.specs.Halves.{Halves, left_period, right_period}
use Rattle.halving_plan.specs.Trees.{Tree, One, Split, tree_nodes, tree_height}
use Rattle.halving_plan.specs.Trees.{halves_of}
use Rattle.halving_plan.specs.Steps.{tree_depth}
use Rattle.halving_plan.specs.Runs.{Fields, fields_in}
use Rattle.halving_plan.proofs.GroupFields.{with_level, no_fields}

-- a node that has each register
pub record DeepNode (tree : Tree) (c : ℕ) : Type 0 where
  pub node : ℕ
  pub inside : node < tree_nodes tree
  pub each : (i : ℕ) → i < tree_depth tree → 1 ≤ get_or (fields_in tree c node).moduli i 0

-- two registers more
more : (halves : Halves) (c depth : ℕ) (below : Fields) → 1 ≤ c
    → ((i : ℕ) → i < depth → 1 ≤ get_or below.moduli i 0)
    → (i : ℕ) → i < depth + 2 → 1 ≤ get_or (with_level halves c below).moduli i 0
more halves c depth below some each zero lt = some
more halves c depth below some each (suc zero) lt = omega arith
more halves c depth below some each (suc (suc i)) lt = each i (omega (arith, lt))

module _ (left right : Tree) (spares c : ℕ) (some : 1 ≤ c) where
  abbrev halves : Halves
  halves = halves_of left right spares

  abbrev n : ℕ
  n = tree_nodes left

  abbrev m : ℕ
  m = tree_nodes right

  abbrev below_by : (v : ℕ) (first second : Bool) → Fields
  below_by v first second =
      if first then fields_in left (left_period halves) v
      else if second then fields_in right (right_period halves) (v - n)
      else no_fields

  abbrev below_at : (v : ℕ) → Fields
  below_at v = below_by v (nat_lt v n) (nat_lt v (n + m))

  by_left : tree_height right ≤ tree_height left → DeepNode left (left_period halves)
      → DeepNode (Split left right spares) c
  by_left higher deep =
      let v = deep.node in
      let inside = deep.inside in
      let at : below_at v ≡ fields_in left (left_period halves) v =
      ap (λ b. below_by v b (nat_lt v (n + m))) (lt-ltb v n inside) in
      let depth : tree_depth (Split left right spares) ≡ tree_depth left + 2 =
      omega (arith, higher) in
      record {
        node = v;
        inside = omega (arith, inside);
        each = λ i lt. more halves c (tree_depth left) (below_at v) some
            (subst (λ (b : Fields). (j : ℕ) → j < tree_depth left → 1 ≤ get_or b.moduli j 0)
            (sym at) deep.each) i (omega (arith, lt, depth));
      }

  by_right : tree_height left ≤ tree_height right → DeepNode right (right_period halves)
      → DeepNode (Split left right spares) c
  by_right higher deep =
      let u = deep.node in
      let inside = deep.inside in
      let v : ℕ = n + u in
      let place : v - n ≡ u = omega arith in
      let at : below_at v ≡ fields_in right (right_period halves) u =
      ap (λ b. below_by v b (nat_lt v (n + m))) (le-ltb v n (omega arith))
      ∙ (ap (λ b. below_by v false b) (lt-ltb v (n + m) (omega (arith, inside)))
      ∙ ap (fields_in right (right_period halves)) place) in
      let depth : tree_depth (Split left right spares) ≡ tree_depth right + 2 =
      omega (arith, higher) in
      record {
        node = v;
        inside = omega (arith, inside);
        each = λ i lt. more halves c (tree_depth right) (below_at v) some
            (subst (λ (b : Fields). (j : ℕ) → j < tree_depth right → 1 ≤ get_or b.moduli j 0)
            (sym at) deep.each) i (omega (arith, lt, depth));
      }

  deep_by : DeepNode left (left_period halves) → DeepNode right (right_period halves)
      → DeepNode (Split left right spares) c
  deep_by deep_left deep_right = elim (cases_lt (tree_height left) (tree_height right)) [
    | inl lt ↦ by_right (omega (arith, lt)) deep_right
    | inr le ↦ by_left le deep_left
  ]

pub deep_node : (tree : Tree) (c : ℕ) → 1 ≤ c → DeepNode tree c
deep_node One c some = record {
  node = 0;
  inside = omega arith;
  each = λ i lt. absurd (omega (arith, lt));
}
deep_node (Split left right spares) c some =
    let halves = halves_of left right spares in
    deep_by left right spares c some (deep_node left (left_period halves) (omega arith))
    (deep_node right (right_period halves) (omega arith))
