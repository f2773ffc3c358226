-- The numbers of the halves of a group.
use Rattle.std.proofs.Common.{◌≡◌, ℕ, ◌+◌, ◌-◌, ◌*◌, ◌<◌, ◌≤◌, sym, ap, ◌∙◌, ⊎_elim, arith}
use Rattle.std.specs.Prelude.{nat_lt}
use Rattle.std.proofs.lemmas.Bool.{cases_lt, lt-ltb, le-ltb}
use Rattle.halving_plan.specs.Trees.{Tree, tree_nodes, tree_faults, tree_for}
use Rattle.halving_plan.specs.Trees.{halves_of, left_part, right_part}
use Rattle.halving_plan.proofs.Numbers.{both_parts, faults_of_tree}
use Rattle.halving_plan.specs.Groups.{HalvingGroup, IsGroup, sizes_of}
use Rattle.halving_plan.proofs.Trees.{nodes_of_half}

pub no_spares : (n : ℕ) → n - n ≡ 0
no_spares n = omega arith

-- the tree of a half
pub half_tree : (f : ℕ) → tree_for f (3 * f + 1 - (3 * f + 1)) ≡ tree_for f 0
half_tree f = ap (tree_for f) (no_spares (3 * f + 1))

-- the trees of the halves
abbrev pub left_tree : ℕ → Tree
left_tree f = tree_for (left_part f) 0

abbrev pub right_tree : ℕ → Tree
right_tree f = tree_for (right_part f) 0

pub halves_are : (group : HalvingGroup) → IsGroup group → 0 < group.faults
    → halves_of (left_tree group.faults) (right_tree group.faults)
    (group.nodes - (3 * group.faults + 1))
    ≡ sizes_of group
halves_are group is some =
    let f = group.faults in
    let left = nodes_of_half (left_part f) in
    let right = nodes_of_half (right_part f) in
    let quorum = is.quorum in
    let nodes : tree_nodes (left_tree f) + tree_nodes (right_tree f) + 2
    + (group.nodes - (3 * f + 1)) ≡ group.nodes =
    omega (arith, left, right, both_parts f some, quorum) in
    ap (λ n. record {
      left_nodes = n;
      left_faults = tree_faults (left_tree f);
      right_nodes = tree_nodes (right_tree f);
      right_faults = tree_faults (right_tree f);
      nodes = tree_nodes (left_tree f) + tree_nodes (right_tree f) + 2
          + (group.nodes - (3 * f + 1));
    }) left
    ∙ (ap (λ n. record {
      left_nodes = 3 * left_part f + 1;
      left_faults = n;
      right_nodes = tree_nodes (right_tree f);
      right_faults = tree_faults (right_tree f);
      nodes = tree_nodes (left_tree f) + tree_nodes (right_tree f) + 2
          + (group.nodes - (3 * f + 1));
    }) (faults_of_tree (left_part f) 0)
    ∙ (ap (λ n. record {
      left_nodes = 3 * left_part f + 1;
      left_faults = left_part f;
      right_nodes = n;
      right_faults = tree_faults (right_tree f);
      nodes = tree_nodes (left_tree f) + tree_nodes (right_tree f) + 2
          + (group.nodes - (3 * f + 1));
    }) right
    ∙ (ap (λ n. record {
      left_nodes = 3 * left_part f + 1;
      left_faults = left_part f;
      right_nodes = 3 * right_part f + 1;
      right_faults = n;
      nodes = tree_nodes (left_tree f) + tree_nodes (right_tree f) + 2
          + (group.nodes - (3 * f + 1));
    }) (faults_of_tree (right_part f) 0)
    ∙ ap (λ n. record {
      left_nodes = 3 * left_part f + 1;
      left_faults = left_part f;
      right_nodes = 3 * right_part f + 1;
      right_faults = right_part f;
      nodes = n;
    }) nodes)))

pub lt_shifted : (a v n : ℕ) → a ≤ v → nat_lt (v - a) n ≡ nat_lt v (a + n)
lt_shifted a v n le = ⊎_elim
    (λ less. lt-ltb (v - a) n less ∙ sym (lt-ltb v (a + n) (omega arith)))
    (λ more. le-ltb (v - a) n more ∙ sym (le-ltb v (a + n) (omega arith)))
    (cases_lt (v - a) n)
