-- The bits of a node's state are those that the codec writes.
use Rattle.std.proofs.Common.{◌≡◌, ℕ, ◌+◌, ◌-◌, ◌<◌, List, [], ◌∷◌, length, replicate, All, refl}
use Rattle.std.proofs.Common.{sum_by, arith}
use Rattle.std.specs.Prelude.{◌==◌}
use Rattle.std.proofs.lemmas.Bool.{cond_both, eqb-true}
use Rattle.std.proofs.lemmas.List.Elements.{All-head, All-tail}
use Rattle.std.proofs.lemmas.List.Folds.{sum_by-replicate}
use Rattle.std.proofs.lemmas.List.Sums.{sum_by-cons, sum_by-append}
use Rattle.construction.specs.Widths.{width}
use Rattle.state_codec.specs.Shapes.{registers_bits}
use Rattle.state_codec.specs.Shapes as codec
use Rattle.halving_plan.specs.Trees.{Tree}
use Rattle.halving_plan.specs.Steps.{tree_depth}
use Rattle.halving_plan.specs.Runs.{Fields, fields_in}
use Rattle.halving_plan.proofs.Ranges.{positive_fields}
use Rattle.halving_plan.specs.Plans.{tree_of}
use Rattle.halving_plan.specs.Sizes.{register_bits, BitsAreWritten}

-- a register that is there
register_written : (modulus : ℕ) → 0 < modulus → codec.register_bits modulus ≡ register_bits modulus
register_written modulus some =
    cond_both (modulus == 0) 0 (width (modulus + 1) + 1) (λ bits. bits ≡ width (modulus + 1) + 1)
    (λ e. let none : modulus ≡ 0 = eqb-true modulus 0 e in absurd (omega (arith, none, some)))
    (λ e. refl)

registers_written : (moduli : List ℕ) → All (λ modulus. 0 < modulus) moduli
    → sum_by codec.register_bits moduli ≡ sum_by register_bits moduli
registers_written [] some = refl
registers_written (modulus ∷ moduli) some =
    omega (
      arith,
      sum_by-cons codec.register_bits modulus moduli,
      sum_by-cons register_bits modulus moduli,
      register_written modulus (All-head (λ m. 0 < m) modulus moduli some),
      registers_written moduli (All-tail (λ m. 0 < m) modulus moduli some),
    )

-- and those that the node lacks take none
pub bits_are_written : BitsAreWritten
unfolding registers_bits
bits_are_written plan is v =
    let tree : Tree = tree_of plan in
    let fields : Fields = fields_in tree plan.modulus v in
    let lacks : ℕ = tree_depth tree - length fields.moduli in
    let two = is.least_modulus in
    omega (
      arith,
      sum_by-append codec.register_bits fields.moduli (replicate lacks 0),
      sum_by-replicate codec.register_bits lacks 0,
      registers_written fields.moduli (positive_fields tree plan.modulus v (omega (arith, two))).1,
    )
