-- A state of a node of a plan takes some bits, and has few registers.
use Rattle.std.proofs.Common.{ℕ, zero, suc, ◌+◌, ◌-◌, ◌*◌, ◌^◌, ◌<◌, ◌≤◌, List, ◌∷◌}
use Rattle.std.proofs.Common.{sym, subst, arith}
use Rattle.state_codec.specs.Shapes.{Fields, fields_at, registers_bits, bits_in}
use Rattle.state_codec.proofs.RegisterSteps.{registers_bits-cons}
use Rattle.node_words.proofs.StateDigits.{wide, some_register}
use Rattle.halving_plan.specs.Trees.{Tree, One, Split, tree_height, halved_within}
use Rattle.halving_plan.specs.Trees.{left_part, right_part}
use Rattle.halving_plan.specs.Runs.{all_fields}
use Rattle.halving_plan.specs.Plans.{HalvingNumbers, IsAccepted, tree_of}
use Rattle.halving_texts.specs.HalvingShapes.{shape_of}
use Rattle.halving_texts.proofs.Shaped.{fields_are}

first_counts : (c : ℕ) (cs : List ℕ) → 2 ≤ c → 0 < registers_bits (c ∷ cs)
first_counts c cs two = omega (arith, registers_bits-cons c cs, some_register c two)

-- the top register of a group takes some, and the number of a single node
some_bits : (tree : Tree) (c v : ℕ) → 2 ≤ c → c ≤ 2 ^ 40 → 0 < bits_in (all_fields tree c v)
some_bits One c v two most = omega (arith, wide c two most)
some_bits (Split left right spares) c v two most =
    let some : 0 < registers_bits (all_fields (Split left right spares) c v).moduli =
    first_counts c _ two in
    omega (arith, some)

-- a tree within a height is no higher
height_most : (height f spares : ℕ) → tree_height (halved_within height f spares) ≤ height
height_most zero f spares = omega arith
height_most (suc height) zero spares = omega arith
height_most (suc height) (suc f) spares =
    let left = height_most height (left_part (suc f)) 0 in
    let right = height_most height (right_part (suc f)) 0 in
    omega (arith, left, right)

pub some_bits_at : (plan : HalvingNumbers) → IsAccepted plan → (v : ℕ) → v < plan.nodes
    → 0 < bits_in (fields_at (shape_of plan) v)
some_bits_at plan accepted v lt =
    subst (λ (f : Fields). 0 < bits_in f) (sym (fields_are plan accepted v lt))
    (some_bits (tree_of plan) plan.modulus v accepted.least_modulus accepted.most_modulus)

-- a level has two registers, and single nodes have none
pub few_registers : (plan : HalvingNumbers) → IsAccepted plan → (shape_of plan).depth ≤ 340
few_registers plan accepted =
    let high = height_most plan.faults plan.faults (plan.nodes - (3 * plan.faults + 1)) in
    let quorum = accepted.quorum in
    let nodes = accepted.most_nodes in
    omega (arith, high, quorum, nodes)
