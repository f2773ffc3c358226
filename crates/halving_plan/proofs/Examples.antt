-- Worked values of the definitions, by computation.
use Rattle.std.proofs.Common.{◌≡◌, ℕ, List, [], ◌∷◌, refl}
use Rattle.construction.specs.Widths.{width}
use Rattle.halving_plan.specs.Plans.{HalvingNumbers}
use Rattle.halving_plan.specs.Sizes.{node_bits, state_bits, state_bytes, levels_of}

plan : (nodes faults modulus : ℕ) → HalvingNumbers
plan n f c = record { nodes = n; faults = f; modulus = c }

-- the nodes of the left half and of the right half of four, and the spares
four_nodes : node_bits (plan 4 1 1000) 0 ∷ node_bits (plan 4 1 1000) 1
    ∷ node_bits (plan 4 1 1000) 2 ∷ node_bits (plan 4 1 1000) 3 ∷ [] ≡ 19 ∷ 18 ∷ 16 ∷ 16 ∷ []
unfolding plan width
four_nodes = refl

sizes : HalvingNumbers → List ℕ
sizes p = state_bits p ∷ state_bytes p ∷ levels_of p ∷ []

of_four : sizes (plan 4 1 1000) ≡ 19 ∷ 3 ∷ 1 ∷ []
unfolding sizes plan width
of_four = refl

of_all : sizes (plan 256 85 1000) ≡ 118 ∷ 15 ∷ 8 ∷ []
unfolding sizes plan width
of_all = refl

-- modulo 10
bits_of : (nodes faults : ℕ) → ℕ
bits_of n f = state_bits (plan n f 10)

of_some : bits_of 4 1 ∷ bits_of 13 4 ∷ bits_of 31 10 ∷ bits_of 256 85 ∷ []
    ≡ 13 ∷ 33 ∷ 47 ∷ 112 ∷ []
unfolding bits_of plan width
of_some = refl
