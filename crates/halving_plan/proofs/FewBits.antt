-- The states of a plan's nodes have few bits.
use Rattle.std.proofs.Common.{◌≡◌, ℕ, ◌+◌, ◌-◌, ◌*◌, ◌^◌, ◌<◌, ◌≤◌, max}
use Rattle.std.proofs.Common.{cond}
use Rattle.std.proofs.Common.{List, [], ◌∷◌, length, replicate, refl, arith}
use Rattle.std.specs.Prelude.{nat_lt, ◌==◌}
use Rattle.std.proofs.Math.Nat.{le-max_left, le-max_right}
use Rattle.std.proofs.lemmas.Bool.{cond_both}
use Rattle.std.proofs.lemmas.List.Folds.{sum_by-replicate}
use Rattle.std.proofs.lemmas.List.Sums.{sum_by-cons, sum_by-append}
use Rattle.construction.specs.Widths.{width}
use Rattle.plan_numbers.proofs.WidthLaws.{width_most}
use Rattle.state_codec.specs.Shapes.{Fields, register_bits, registers_bits, bits_in}
use Rattle.halving_plan.specs.Halves.{Halves, faults_of, left_period, right_period}
use Rattle.halving_plan.specs.Trees.{Tree, One, Split, tree_nodes, tree_height}
use Rattle.halving_plan.specs.Trees.{tree_for, halves_of}
use Rattle.halving_plan.specs.Steps.{tree_depth}
use Rattle.halving_plan.specs.Runs.{fields_in, all_fields}
use Rattle.halving_plan.proofs.Numbers.{three_faults}
use Rattle.halving_plan.specs.Plans.{HalvingNumbers, IsAccepted, tree_of}
use Rattle.halving_plan.proofs.Trees.{taller}
use Rattle.halving_plan.proofs.Sound.{nodes_are}

-- ---- one register, and two of a level

register_most : (m k : ℕ) → k < 64 → m + 1 ≤ 2 ^ k → register_bits m ≤ k + 1
register_most m k lt le =
    cond_both (m == 0) 0 (width (m + 1) + 1) (λ bits. bits ≤ k + 1) (λ e. omega arith)
    (λ e. omega (arith, width_most (m + 1) k lt le))

level_most : (modulus period : ℕ) (rest : List ℕ) → modulus ≤ 2 ^ 40 → period < 1024
    → registers_bits (modulus ∷ period ∷ rest) ≤ 53 + registers_bits rest
unfolding registers_bits
level_most modulus period rest most few =
    omega (
      arith,
      sum_by-cons register_bits modulus (period ∷ rest),
      sum_by-cons register_bits period rest,
      register_most modulus 41 (omega arith) (omega arith),
      register_most period 10 (omega arith) (omega arith),
    )

none_most : registers_bits [] ≡ 0
unfolding registers_bits
none_most = refl

-- ---- the fields of a node

bits_most : (tree : Tree) (modulus v : ℕ) → modulus ≤ 2 ^ 40 → tree_nodes tree ≤ 256
    → bits_in (fields_in tree modulus v) ≤ 40 + 53 * tree_height tree
bits_most One modulus v most few =
    omega (arith, width_most modulus 40 (omega arith) most, none_most)
bits_most (Split left right spares) modulus v most few =
    let halves : Halves = halves_of left right spares in
    let n : ℕ = tree_nodes left in
    let m : ℕ = tree_nodes right in
    let none : Fields = record { base = 1; moduli = [] } in
    let in_left : Fields = fields_in left (left_period halves) v in
    let in_right : Fields = fields_in right (right_period halves) (v - n) in
    let rest : Fields = cond (nat_lt v n) in_left (cond (nat_lt v (n + m)) in_right none) in
    let above : ℕ = max (tree_height left) (tree_height right) in
    let few_faults : 3 * faults_of halves < 256 =
    omega (arith, three_faults (Split left right spares)) in
    let below : bits_in rest ≤ 40 + 53 * above =
    cond_both (nat_lt v n) in_left (cond (nat_lt v (n + m)) in_right none)
    (λ fields. bits_in fields ≤ 40 + 53 * above)
    (λ e. omega (
      arith,
      bits_most left (left_period halves) v (omega arith) (omega arith),
      le-max_left (tree_height left) (tree_height right),
    ))
    (λ e. cond_both (nat_lt v (n + m)) in_right none (λ fields. bits_in fields ≤ 40 + 53 * above)
    (λ e. omega (
      arith,
      bits_most right (right_period halves) (v - n) (omega arith) (omega arith),
      le-max_right (tree_height left) (tree_height right),
    ))
    (λ e. omega (arith, width_most 1 40 (omega arith) (omega arith), none_most))) in
    omega (arith, level_most modulus (left_period halves) rest.moduli most (omega arith), below)

-- registers that the node lacks take none
all_bits : (tree : Tree) (modulus v : ℕ)
    → bits_in (all_fields tree modulus v) ≡ bits_in (fields_in tree modulus v)
unfolding registers_bits
all_bits tree modulus v =
    let fields : Fields = fields_in tree modulus v in
    let lacks : ℕ = tree_depth tree - length fields.moduli in
    omega (
      arith,
      sum_by-append register_bits fields.moduli (replicate lacks 0),
      sum_by-replicate register_bits lacks 0,
    )

-- ---- a plan

highest : tree_height (tree_for 85 0) ≡ 8
highest = refl

pub few_bits : (plan : HalvingNumbers) → IsAccepted plan → (v : ℕ)
    → bits_in (all_fields (tree_of plan) plan.modulus v) ≤ 464
few_bits plan is v =
    let quorum = is.quorum in
    let few = is.most_nodes in
    let spares : ℕ = plan.nodes - (3 * plan.faults + 1) in
    omega (
      arith,
      all_bits (tree_of plan) plan.modulus v,
      bits_most (tree_of plan) plan.modulus v is.most_modulus (omega (arith, nodes_are plan is)),
      taller plan.faults 85 spares 0 (omega arith),
      highest,
    )
