-- The fields of a node in a group are those of its level, and those that it has in its half.
use Rattle.std.proofs.Common.{◌≡◌, ℕ, zero, suc, ◌+◌, ◌-◌, ◌*◌, ◌<◌, ◌≤◌, Bool, true, false}
use Rattle.std.proofs.Common.{List, [], ◌∷◌, Option, Some, None, refl, sym, ap, ap₂, ◌∙◌, arith}
use Rattle.std.specs.Prelude.{nat_lt, if◌then◌else◌, slice_get}
use Rattle.halving_plan.specs.Halves.{Halves, left_period, right_period}
use Rattle.halving_plan.specs.Trees.{Tree, tree_nodes, tree_for, left_part, right_part}
use Rattle.halving_plan.specs.Runs.{Fields, fields_in}
use Rattle.halving_plan.specs.Groups.{HalvingGroup, IsGroup, left_of, right_of, half_in, sizes_of}
use Rattle.halving_plan.specs.Fields.{fields_by}
use Rattle.halving_plan.proofs.Trees.{split_of, nodes_of_half}
use Rattle.halving_plan.proofs.Halves.{left_tree, right_tree, half_tree, halves_are}
use Rattle.halving_plan.proofs.Halves.{lt_shifted}

-- no fields
abbrev pub no_fields : Fields
no_fields = record { base = 1; moduli = [] }

-- those of the half in which a node is, if any
abbrev pub fields_in_half : Option HalvingGroup → (v : ℕ) → Fields
fields_in_half None v = no_fields
fields_in_half (Some half) v = fields_by half v

-- the two of a level are before
abbrev pub with_level : Halves → (modulus : ℕ) → Fields → Fields
with_level halves modulus below =
    record { base = below.base; moduli = modulus ∷ left_period halves ∷ below.moduli }

abbrev split_fields : (left right : Tree) (halves : Halves) (modulus u n m : ℕ) → Fields
split_fields left right halves modulus u n m =
    with_level halves modulus
    (if nat_lt u n then fields_in left (left_period halves) u
    else if nat_lt u (n + m) then fields_in right (right_period halves) (u - n)
    else no_fields)

half_fields : (half : HalvingGroup) (tree : Tree) (modulus v w : ℕ) → tree ≡ tree_for half.faults
    (half.nodes - (3 * half.faults + 1)) → modulus ≡ half.modulus → w ≡ v - half.first
    → fields_in tree modulus w ≡ fields_by half v
half_fields half tree modulus v w t c e =
    ap (λ k. fields_in k modulus w) t
    ∙ ap₂ (fields_in (tree_for half.faults (half.nodes - (3 * half.faults + 1)))) c e

chosen : (b c : Bool) (left right : HalvingGroup) (v : ℕ)
    → (if b then fields_by left v else if c then fields_by right v else no_fields)
    ≡ fields_in_half (if b then Some left else if c then Some right else None) v
chosen true c left right v = refl
chosen false true left right v = refl
chosen false false left right v = refl

pub fields_by_level : (group : HalvingGroup) (v : ℕ) → IsGroup group → 0 < group.faults
    → group.first ≤ v
    → fields_by group v
    ≡ with_level (sizes_of group) group.modulus (fields_in_half (half_in group v) v)
fields_by_level group v is some from =
    let f = group.faults in
    let left = left_tree f in
    let right = right_tree f in
    let spares = group.nodes - (3 * f + 1) in
    let u = v - group.first in
    let c = group.modulus in
    let halves = sizes_of group in
    let n = 3 * left_part f + 1 in
    let m = 3 * right_part f + 1 in
    let l = half_fields (left_of group) left (left_period halves) v u
    (sym (half_tree (left_part f))) refl refl in
    let r = half_fields (right_of group) right (right_period halves) v (u - n)
    (sym (half_tree (right_part f))) refl (omega arith) in
    ap (λ t. fields_in t c u) (split_of f spares some)
    ∙ (ap (λ g. split_fields left right g c u (tree_nodes left) (tree_nodes right))
    (halves_are group is some)
    ∙ (ap₂ (λ j k. split_fields left right halves c u j k) (nodes_of_half (left_part f))
    (nodes_of_half (right_part f))
    ∙ (ap₂ (λ s t. with_level halves c (if nat_lt u n then s else if nat_lt u (n + m) then t
    else no_fields)) l r
    ∙ (ap₂ (λ a b. with_level halves c (if a then fields_by (left_of group) v
    else if b then fields_by (right_of group) v else no_fields))
    (lt_shifted group.first v n from)
    (lt_shifted group.first v (n + m) from ∙ ap (nat_lt v) (omega arith))
    ∙ ap (with_level halves c) (chosen (nat_lt v (right_of group).first)
    (nat_lt v ((right_of group).first + (right_of group).nodes)) (left_of group) (right_of group)
    v)))))

-- a register of the half comes after those of the level
pub after_two : (i a b : ℕ) (xs : List ℕ) → 2 ≤ i
    → slice_get (a ∷ b ∷ xs) i ≡ slice_get xs (i - 2)
after_two zero a b xs le = absurd (omega arith)
after_two (suc zero) a b xs le = absurd (omega arith)
after_two (suc (suc i)) a b xs le = ap (slice_get xs) (omega arith)
