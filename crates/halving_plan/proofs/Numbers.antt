-- The numbers of trees: they have more than three nodes for each fault, and those that plans have
-- are as small and as fast as is said.
use Rattle.std.proofs.Common.{◌≡◌, ℕ, zero, suc, ◌+◌, ◌*◌, ◌/◌, ◌<◌, ◌≤◌, refl, sym, ap, ◌∙◌}
use Rattle.std.proofs.Common.{⊎_elim, subst₂, arith}
use Rattle.std.proofs.Math.Nat.{max-le, div-eq_of_lt, div_self}
use Rattle.std.proofs.lemmas.Bool.{cases_lt}
use Rattle.halving_plan.specs.Halves.{Halves, Halved, instructions, right_wait}
use Rattle.halving_plan.specs.Trees.{Tree, One, Split, tree_nodes, tree_faults}
use Rattle.halving_plan.specs.Trees.{tree_bound, halves_of, bound_over, halved_within}
use Rattle.halving_plan.specs.Trees.{tree_for, left_part, right_part}

-- N > 3 F
pub three_faults : (tree : Tree) → 3 * tree_faults tree < tree_nodes tree
three_faults One = omega arith
three_faults (Split left right spares) = omega (arith, three_faults left, three_faults right)

-- so the premises of each level hold
pub is_halved : (left right : Tree) (spares : ℕ) → Halved (halves_of left right spares)
is_halved left right spares = record {
  left = three_faults left;
  right = three_faults right;
  room = omega arith;
  quorum = omega (arith, three_faults left, three_faults right);
}

-- ---- the trees that plans have

-- the faults of the halves
pub both_parts : (f : ℕ) → 0 < f → left_part f + right_part f + 1 ≡ f
both_parts f some = omega arith

faults_within : (height f spares : ℕ) → f ≤ height
    → tree_faults (halved_within height f spares) ≡ f
faults_within zero f spares le = omega arith
faults_within (suc height) zero spares le = refl
faults_within (suc height) (suc f) spares le =
    omega (
      arith,
      both_parts (suc f) (omega arith),
      faults_within height (left_part (suc f)) 0 (omega arith),
      faults_within height (right_part (suc f)) 0 (omega arith),
    )

nodes_within : (height f : ℕ) → f ≤ height → tree_nodes (halved_within height f 0) ≡ 3 * f + 1
nodes_within zero f le = omega arith
nodes_within (suc height) zero le = refl
nodes_within (suc height) (suc f) le =
    omega (
      arith,
      both_parts (suc f) (omega arith),
      nodes_within height (left_part (suc f)) (omega arith),
      nodes_within height (right_part (suc f)) (omega arith),
    )

pub faults_of_tree : (f spares : ℕ) → tree_faults (tree_for f spares) ≡ f
faults_of_tree f spares = faults_within f f spares (omega arith)

pub nodes_of_tree : (f spares : ℕ) → 0 < f
    → tree_nodes (tree_for f spares) ≡ 3 * f + 1 + spares
nodes_of_tree zero spares some = absurd (omega arith)
nodes_of_tree (suc f) spares some =
    omega (
      arith,
      both_parts (suc f) some,
      nodes_within f (left_part (suc f)) (omega arith),
      nodes_within f (right_part (suc f)) (omega arith),
    )

-- ---- bounds

-- halves of so many faults; a bound asks no more of them
abbrev pub of_faults : (left right : ℕ) → Halves
of_faults left right = record {
  left_nodes = 3 * left + 1;
  left_faults = left;
  right_nodes = 3 * right + 1;
  right_faults = right;
  nodes = 3 * (left + right + 1) + 1;
}

-- the right half has two phases of a king, or three if it is no larger than the left one
pub fewer_phases : (left right : ℕ) → left < right
    → right_wait (of_faults left right) ≡ 2 * instructions right + 2
fewer_phases left right less =
    let none : (left + 1) / (right + 1) ≡ 0 = div-eq_of_lt (omega arith) in
    ap (λ k. (k + 2) * instructions right + 2) none

pub same_phases : (left right : ℕ) → left ≡ right
    → right_wait (of_faults left right) ≡ 3 * instructions right + 2
same_phases left right same =
    let one : (right + 1) / (right + 1) ≡ 1 = div_self (omega arith) in
    ap (λ l. ((l + 1) / (right + 1) + 2) * instructions right + 2) same
    ∙ ap (λ k. (k + 2) * instructions right + 2) one

-- at most this for so many faults
right_fast : (f : ℕ) → 0 < f
    → 16 * right_part f + right_wait (of_faults (left_part f) (right_part f)) ≤ 16 * f
right_fast f some = ⊎_elim
    (λ less. omega (arith, fewer_phases (left_part f) (right_part f) less))
    (λ le. let same : left_part f ≡ right_part f = omega arith in
    omega (arith, same_phases (left_part f) (right_part f) same))
    (cases_lt (left_part f) (right_part f))

fast_over : (f left right : ℕ) → 0 < f → left ≤ 16 * left_part f → right ≤ 16 * right_part f
    → bound_over (of_faults (left_part f) (right_part f)) left right ≤ 16 * f
fast_over f left right some l r =
    max-le (omega arith) (omega (arith, right_fast f some))

bound_within : (height f spares : ℕ) → f ≤ height
    → tree_bound (halved_within height f spares) ≤ 16 * f
bound_within zero f spares le = omega arith
bound_within (suc height) zero spares le = omega arith
bound_within (suc height) (suc f) spares le =
    let l : ℕ = left_part (suc f) in
    let r : ℕ = right_part (suc f) in
    let left : Tree = halved_within height l 0 in
    let right : Tree = halved_within height r 0 in
    subst₂ (λ a b. bound_over (of_faults a b) (tree_bound left) (tree_bound right)
    ≤ 16 * suc f) (sym (faults_within height l 0 (omega arith)))
    (sym (faults_within height r 0 (omega arith)))
    (fast_over (suc f) (tree_bound left) (tree_bound right) (omega arith)
    (bound_within height l 0 (omega arith)) (bound_within height r 0 (omega arith)))

pub bound_of_tree : (f spares : ℕ) → tree_bound (tree_for f spares) ≤ 16 * f
bound_of_tree f spares = bound_within f f spares (omega arith)
