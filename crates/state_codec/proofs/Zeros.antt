-- The bytes of zero states.
use Rattle.std.proofs.Common.{◌≡◌, ℕ, zero, suc, ◌+◌, ◌-◌, ◌*◌, Bool, true, false, cond, length}
use Rattle.std.proofs.Common.{List, [], ◌∷◌, ◌++◌, replicate, refl, sym, ap, ap₂, ◌∙◌, arith}
use Rattle.std.proofs.Common.{◌==◌}
use Rattle.std.proofs.lemmas.List.{take-replicate, drop-replicate, replicate-append-replicate}
use Rattle.sync_types.specs.States.{zero_state, zero_register}
use Rattle.construction.specs.Widths.{width}
use Rattle.state_codec.specs.Bits.{number_of, bytes_of_bits}
use Rattle.state_codec.specs.Shapes.{Fields, register_bits, registers_bits, bits_in, bytes_in}
use Rattle.state_codec.specs.Writing.{full_bits, bits_of_registers, written}
use Rattle.state_codec.proofs.Numbers.{bits_of_zero}
use Rattle.state_codec.proofs.RegisterSteps.{registers_bits-cons, registers_bits_of_none}
use Rattle.state_codec.proofs.Whole.{rounded}

register_of_zeros : (b : Bool) (c : ℕ) → cond b [] (full_bits c zero_register)
    ≡ replicate (cond b 0 (width (c + 1) + 1)) false
register_of_zeros true c = refl
register_of_zeros false c =
    ap (λ (ys : List Bool). ys ++ false ∷ []) (bits_of_zero (width (c + 1)))
    ∙ replicate-append-replicate (width (c + 1)) 1 false

registers_of_zeros : (cs : List ℕ) → bits_of_registers cs (replicate (length cs) zero_register)
    ≡ replicate (registers_bits cs) false
unfolding bits_of_registers
registers_of_zeros [] = ap (λ k. replicate k false) (sym registers_bits_of_none)
registers_of_zeros (c ∷ cs) =
    ap₂ (λ (xs ys : List Bool). xs ++ ys) (register_of_zeros (c == 0) c) (registers_of_zeros cs)
    ∙ (replicate-append-replicate (register_bits c) (registers_bits cs) false
    ∙ ap (λ k. replicate k false) (sym (registers_bits-cons c cs)))

bytes_of_zeros : (k : ℕ) → bytes_of_bits k (replicate (8 * k) false) ≡ replicate k 0
unfolding bytes_of_bits number_of
bytes_of_zeros zero = refl
bytes_of_zeros (suc k) =
    let rest : 8 * suc k - 8 ≡ 8 * k = omega arith in
    rw (
      take-replicate 8 (8 * suc k) false (omega arith),
      drop-replicate 8 (8 * suc k) false,
      rest,
      bytes_of_zeros k,
    ) refl

-- a zero state is written as zeros
pub written_zero : (fields : Fields) → written fields (zero_state (length fields.moduli))
    ≡ replicate (bytes_in fields) 0
written_zero fields =
    let n : ℕ = bits_in fields in
    let k : ℕ = bytes_in fields in
    let pad : ℕ = 8 * k - n in
    let whole : n + pad ≡ 8 * k = omega (arith, rounded n) in
    ap (λ (ys : List Bool). bytes_of_bits k (ys ++ replicate pad false))
    (ap₂ (λ (xs ys : List Bool). xs ++ ys) (bits_of_zero (width fields.base))
    (registers_of_zeros fields.moduli)
    ∙ replicate-append-replicate (width fields.base) (registers_bits fields.moduli) false)
    ∙ (ap (bytes_of_bits k) (replicate-append-replicate n pad false
    ∙ ap (λ j. replicate j false) whole)
    ∙ bytes_of_zeros k)
