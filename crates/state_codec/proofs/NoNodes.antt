-- A shape of no nodes has no registers, so that no state takes a bit.
use Rattle.std.proofs.Common.{◌≡◌, ◌<◌, ℕ, List, [], ◌∷◌, length, zero, suc, refl}
use Rattle.std.proofs.Common.{arith}
use Rattle.construction.specs.Widths.{width}
use Rattle.state_codec.specs.Shapes.{Fields, Shape, IsShape, shape_nodes, fields_at, bits_in}
use Rattle.state_codec.proofs.RegisterSteps.{registers_bits_of_none}

-- a shape with a register has a node
pub has_node : (shape : Shape) (i : ℕ) → IsShape shape → i < shape.depth → 0 < shape_nodes shape
has_node shape i sound lt = let used = sound.used i lt in omega (arith, used.1)

none_below : (d n : ℕ) → ((i : ℕ) → i < d → 0 < n) → n ≡ 0 → d ≡ 0
none_below zero n some few = refl
none_below (suc d) n some few = absurd (omega (arith, some 0 (omega arith), few))

width_one : width 1 ≡ 0
unfolding width
width_one = refl

no_bits_at : (depth : ℕ) (fields : List Fields) → depth ≡ 0 → length fields ≡ 0
    → bits_in (fields_at (record { depth = depth; fields = fields }) 0) ≡ 0
no_bits_at zero [] none few = omega (arith, width_one, registers_bits_of_none)
no_bits_at (suc n) fields none few = absurd (omega (arith, none))
no_bits_at zero (f ∷ fs) none few = absurd (omega (arith, few))

pub no_bits : (shape : Shape) → IsShape shape → shape_nodes shape ≡ 0
    → bits_in (fields_at shape 0) ≡ 0
no_bits shape sound few = no_bits_at shape.depth shape.fields
    (none_below shape.depth (shape_nodes shape) (λ i. has_node shape i sound) few) few
