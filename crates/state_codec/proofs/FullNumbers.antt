-- The bits of a register that is there, as a number.
use Rattle.std.proofs.Common.{◌≡◌, ℕ, suc, ◌+◌, ◌-◌, ◌*◌, ◌%◌, ◌^◌, ◌≤◌, ◌<◌, Bool, true, false}
use Rattle.std.proofs.Common.{cond, List, [], ◌∷◌, ◌++◌, length, sym, ap, subst, ◌∙◌, arith, ◌==◌}
use Rattle.std.proofs.Common.{bit_or}
use Rattle.std.specs.Prelude.{unwrap_or, IfSome, not, All}
use Rattle.sync_types.specs.declared.states.Reg.{Reg}
use Rattle.construction.specs.Runs.{IsRegister}
use Rattle.construction.specs.Widths.{width}
use Rattle.state_codec.specs.Bits.{bits}
use Rattle.state_codec.specs.Shapes.{register_bits, registers_bits, bits_in, IsFields}
use Rattle.state_codec.specs.Ranges.{IsField}
use Rattle.state_codec.specs.Writing.{full_bits, bits_of_register}
use Rattle.state_codec.proofs.BitLengths.{bit_length_is, width_short}
use Rattle.state_codec.proofs.Steps.{shifted_in, joined_below}
use Rattle.state_codec.proofs.RegisterSteps.{marked, bit_below, value_most, registers_bits-cons}
use Rattle.state_codec.proofs.RegisterSteps.{registers_bits_of_none}
use mir.Val.{bool_byte}

-- a register that is there has a bit for its mark after those of its value
pub full_size : (m : ℕ) → (m == 0) ≡ false → register_bits m ≡ width (m + 1) + 1
full_size m there = ap (λ b. cond b 0 (width (m + 1) + 1)) there

short_if : (b : Bool) (w : ℕ) → w ≤ 41 → cond b 0 (w + 1) ≤ 42
short_if true w most = omega arith
short_if false w most = omega (arith, most)

-- no register has more than 42 bits
pub register_short : (m : ℕ) → m ≤ 2 ^ 40 → register_bits m ≤ 42
register_short m most = short_if (m == 0) (width (m + 1)) (width_short m most)

-- registers have at most 42 bits each
pub registers_short : (ms : List ℕ) → All (λ m. m ≤ 2 ^ 40) ms
    → registers_bits ms ≤ length ms * 42
registers_short [] limits = omega (arith, registers_bits_of_none)
registers_short (m ∷ ms) limits =
    let most : m ≤ 2 ^ 40 = limits 0 0 (omega arith) in
    omega (
      arith,
      registers_bits-cons m ms,
      register_short m most,
      registers_short ms (λ k d lt. limits (suc k) d (omega (arith, lt))),
    )

-- a state of up to 16 registers is no longer than any may be
pub fields_short : (base : ℕ) (ms : List ℕ) → IsFields (record { base = base; moduli = ms })
    → length ms ≤ 16 → bits_in (record { base = base; moduli = ms }) ≤ 1024
fields_short base ms limits few =
    let same : base - 1 + 1 ≡ base = omega (arith, limits.least) in
    omega (
      arith,
      ap width same,
      width_short (base - 1) (omega (arith, limits.most)),
      registers_short ms limits.moduli,
    )

-- the value with the mark after it
pub full_number : (m size v : ℕ) (r : Reg) → m ≤ 2 ^ 40 → (m == 0) ≡ false
    → size ≡ register_bits m → IsField m r → v ≡ unwrap_or r.a m
    → (bits size (bit_or (v * 2 ^ 1 % 2 ^ 64) (bool_byte r.d)) ≡ bits_of_register m r)
    × (bit_or (v * 2 ^ 1 % 2 ^ 64) (bool_byte r.d) < 2 ^ size)
full_number m size v r most there sized range is =
    let n : ℕ = bit_or (v * 2 ^ 1 % 2 ^ 64) (bool_byte r.d) in
    let l = bit_length_is m (omega (arith, most)) in
    let w : ℕ = width (m + 1) in
    let small : w + 1 ≤ 64 = omega (arith, l.value, l.least 41 (omega (arith, most))) in
    let fits : m < 2 ^ w = rw (← l.value) l.fits in
    let long : size ≡ w + 1 = sized ∙ full_size m there in
    let below : IfSome r.a (λ a. a < m) = subst (λ b. IsRegister (not b) m r) there range in
    let top : v < 2 ^ w = omega (arith, value_most r.a m below, fits, is) in
    let joined : n ≡ v * 2 ^ 1 + bool_byte r.d =
    shifted_in v w 1 (bool_byte r.d) top (bit_below r.d) small in (
      ap (λ k. bits k n) long
          ∙ (ap (bits (w + 1)) joined
          ∙ (marked w v r.d
          ∙ (ap (λ y. bits w y ++ (r.d ∷ [])) is
          ∙ ap (λ b. cond b [] (full_bits m r)) (sym there)))),
      subst (λ k. n < 2 ^ k) (sym long) (subst (λ y. y < 2 ^ (w + 1)) (sym joined)
          (joined_below v w 1 (bool_byte r.d) top (bit_below r.d))),
    )
