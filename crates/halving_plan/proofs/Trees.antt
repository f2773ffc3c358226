-- The tree of so many faults is split into those of its halves, and what grows with the faults.
use Rattle.std.proofs.Common.{◌≡◌, ℕ, zero, suc, ◌+◌, ◌-◌, ◌*◌, ◌<◌, ◌≤◌, refl, ap, ap₂}
use Rattle.std.proofs.Common.{◌∙◌, ⊎_elim, arith}
use Rattle.std.proofs.Math.Nat.{max-le}
use Rattle.std.proofs.lemmas.Bool.{cases_lt}
use Rattle.halving_plan.specs.Halves.{instructions, right_wait}
use Rattle.halving_plan.specs.Trees.{Tree, Split, tree_nodes}
use Rattle.halving_plan.specs.Trees.{tree_height, tree_bound, bound_over}
use Rattle.halving_plan.specs.Trees.{halved_within, tree_for, left_part, right_part}
use Rattle.halving_plan.proofs.Numbers.{faults_of_tree, nodes_of_tree, of_faults}
use Rattle.halving_plan.proofs.Numbers.{fewer_phases, same_phases}

-- each height that is enough gives the same tree
pub same_within : (h k f spares : ℕ) → f ≤ h → f ≤ k
    → halved_within h f spares ≡ halved_within k f spares
same_within zero zero f spares l m = refl
same_within zero (suc k) zero spares l m = refl
same_within zero (suc k) (suc f) spares l m = absurd (omega arith)
same_within (suc h) zero zero spares l m = refl
same_within (suc h) zero (suc f) spares l m = absurd (omega arith)
same_within (suc h) (suc k) zero spares l m = refl
same_within (suc h) (suc k) (suc f) spares l m =
    ap₂ (λ left right. Split left right spares)
    (same_within h k (left_part (suc f)) 0 (omega arith) (omega arith))
    (same_within h k (right_part (suc f)) 0 (omega arith) (omega arith))

-- the halves of a tree
pub split_of : (f spares : ℕ) → 0 < f
    → tree_for f spares
    ≡ Split (tree_for (left_part f) 0) (tree_for (right_part f) 0) spares
split_of zero spares some = absurd (omega arith)
split_of (suc f) spares some =
    let l : ℕ = left_part (suc f) in
    let r : ℕ = right_part (suc f) in
    ap₂ (λ left right. Split left right spares)
    (same_within f l l 0 (omega arith) (omega arith))
    (same_within f r r 0 (omega arith) (omega arith))

-- a tree without spares of its own has this many nodes
pub nodes_of_half : (f : ℕ) → tree_nodes (tree_for f 0) ≡ 3 * f + 1
nodes_of_half zero = refl
nodes_of_half (suc f) = nodes_of_tree (suc f) 0 (omega arith) ∙ omega arith

-- the tree of so many faults, with all further nodes as spares, has all nodes
pub nodes_with_spares : (n f : ℕ) → 3 * f < n → (f ≡ 0 → n ≡ 1)
    → tree_nodes (tree_for f (n - (3 * f + 1))) ≡ n
nodes_with_spares n zero quorum single = omega (arith, single refl)
nodes_with_spares n (suc f) quorum single =
    omega (arith, nodes_of_tree (suc f) (n - (3 * suc f + 1)) (omega arith), quorum)

-- ---- heights

taller_within : (h m n d e : ℕ) → m ≤ n
    → tree_height (halved_within h m d) ≤ tree_height (halved_within h n e)
taller_within zero m n d e le = omega arith
taller_within (suc h) zero n d e le = omega arith
taller_within (suc h) (suc m) zero d e le = absurd (omega arith)
taller_within (suc h) (suc m) (suc n) d e le =
    let left = taller_within h (left_part (suc m)) (left_part (suc n)) 0 0 (omega arith) in
    let right = taller_within h (right_part (suc m)) (right_part (suc n)) 0 0 (omega arith) in
    omega arith

-- a tree of more faults is no lower
pub taller : (m n d e : ℕ) → m ≤ n
    → tree_height (tree_for m d) ≤ tree_height (tree_for n e)
taller m n d e le =
    let same = ap tree_height (same_within m n m d (omega arith) le) in
    let more = taller_within n m n d e le in
    omega (arith, same, more)

-- the right half tells how high a tree is
pub height_of : (f spares : ℕ) → 0 < f
    → tree_height (tree_for f spares) ≡ tree_height (tree_for (right_part f) 0) + 1
height_of f spares some =
    let split = ap tree_height (split_of f spares some) in
    let less = taller (left_part f) (right_part f) 0 0 (omega arith) in
    omega (arith, split, less)

-- ---- bounds

-- the bound is that over the halves
pub bound_of_halves : (f spares : ℕ) → 0 < f
    → tree_bound (tree_for f spares)
    ≡ bound_over (of_faults (left_part f) (right_part f))
    (tree_bound (tree_for (left_part f) 0)) (tree_bound (tree_for (right_part f) 0))
bound_of_halves f spares some =
    let left : Tree = tree_for (left_part f) 0 in
    let right : Tree = tree_for (right_part f) 0 in
    ap tree_bound (split_of f spares some)
    ∙ ap₂ (λ l r. bound_over (of_faults l r) (tree_bound left) (tree_bound right))
    (faults_of_tree (left_part f) 0) (faults_of_tree (right_part f) 0)

-- ten rounds for each fault and each level
ten_over : (f left right height : ℕ) → 0 < f → left ≤ 10 * (left_part f + height)
    → right ≤ 10 * (right_part f + height)
    → bound_over (of_faults (left_part f) (right_part f)) left right ≤ 10 * (f + (height + 1))
ten_over f left right height some l r =
    max-le (omega arith) (⊎_elim
    (λ less. omega (arith, fewer_phases (left_part f) (right_part f) less))
    (λ more. let same : left_part f ≡ right_part f = omega arith in
    omega (arith, same_phases (left_part f) (right_part f) same))
    (cases_lt (left_part f) (right_part f)))

ten_within : (high f spares : ℕ) → f ≤ high
    → tree_bound (tree_for f spares) ≤ 10 * (f + tree_height (tree_for f spares))
ten_within high zero spares le = omega arith
ten_within zero (suc f) spares le = absurd (omega arith)
ten_within (suc high) (suc f) spares le =
    let n : ℕ = suc f in
    let height : ℕ = tree_height (tree_for (right_part n) 0) in
    let left = ten_within high (left_part n) 0 (omega arith) in
    let lower = taller (left_part n) (right_part n) 0 0 (omega arith) in
    omega (
      arith,
      bound_of_halves n spares (omega arith),
      height_of n spares (omega arith),
      ten_over n (tree_bound (tree_for (left_part n) 0))
          (tree_bound (tree_for (right_part n) 0)) height (omega arith) (omega arith)
          (ten_within high (right_part n) 0 (omega arith)),
    )

pub ten_each : (f spares : ℕ)
    → tree_bound (tree_for f spares) ≤ 10 * (f + tree_height (tree_for f spares))
ten_each f spares = ten_within f f spares (omega arith)

-- no king has fewer than two phases
two_phases : (left right : ℕ) → 2 * instructions right + 2 ≤ right_wait (of_faults left right)
two_phases left right = omega arith

-- more faults wait no shorter for the right half
longer : (f g : ℕ) → 0 < f → f ≤ g
    → right_wait (of_faults (left_part f) (right_part f))
    ≤ right_wait (of_faults (left_part g) (right_part g))
longer f g some le = ⊎_elim
    (λ less. omega (
      arith,
      fewer_phases (left_part f) (right_part f) less,
      two_phases (left_part g) (right_part g),
    ))
    (λ more. let same : left_part f ≡ right_part f = omega arith in ⊎_elim
    (λ less. omega (
      arith,
      same_phases (left_part f) (right_part f) same,
      two_phases (left_part g) (right_part g),
    ))
    (λ over. let equal : left_part g ≡ right_part g = omega arith in omega (
      arith,
      same_phases (left_part f) (right_part f) same,
      same_phases (left_part g) (right_part g) equal,
    ))
    (cases_lt (left_part g) (right_part g)))
    (cases_lt (left_part f) (right_part f))

bounds_within : (height f g d e : ℕ) → f ≤ g → g ≤ height
    → tree_bound (tree_for f d) ≤ tree_bound (tree_for g e)
bounds_within zero zero g d e le high = omega arith
bounds_within zero (suc f) g d e le high = absurd (omega arith)
bounds_within (suc height) zero g d e le high = omega arith
bounds_within (suc height) (suc f) zero d e le high = absurd (omega arith)
bounds_within (suc height) (suc f) (suc g) d e le high =
    let m : ℕ = suc f in
    let n : ℕ = suc g in
    let left =
    bounds_within height (left_part m) (left_part n) 0 0 (omega arith) (omega arith) in
    let right =
    bounds_within height (right_part m) (right_part n) 0 0 (omega arith) (omega arith) in
    omega (
      arith,
      bound_of_halves m d (omega arith),
      bound_of_halves n e (omega arith),
      longer m n (omega arith) le,
    )

-- a tree of more faults is no faster
pub bounds_rise : (f g d e : ℕ) → f ≤ g
    → tree_bound (tree_for f d) ≤ tree_bound (tree_for g e)
bounds_rise f g d e le = bounds_within g f g d e le (omega arith)
