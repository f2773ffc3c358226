-- All bits of a state are written.
use Rattle.std.proofs.Common.{◌≡◌, ℕ, ◌+◌, ◌-◌, ◌*◌, ◌≤◌, ◌<◌, Bool, false, length, get_or, List}
use Rattle.std.proofs.Common.{◌++◌, refl, sym, ap, ◌∙◌, arith, replicate, []}
use Rattle.std.specs.Int.{div_ceil}
use Rattle.std.proofs.lemmas.List.{append-nil, take_all}
use Rattle.state_codec.specs.Bits.{bits, bits_of_bytes, bytes_of_bits}
use Rattle.state_codec.proofs.Numbers.{bits_of_zero}
use Rattle.state_codec.proofs.Bytes.{bytes_of_bits-bits_of_bytes}
use Rattle.construction.specs.Widths.{width}
use Rattle.sync_types.specs.States.{State}
use Rattle.sync_types.specs.declared.states.Reg.{Reg}
use Rattle.state_codec.specs.Shapes.{registers_bits}
use Rattle.state_codec.specs.Writing.{bits_of_registers, written}
use Rattle.state_codec.specs.Cursors.{so_far}

-- so many bytes hold the bits, and no more than seven are left over
pub rounded : (n : ℕ) → n ≤ 8 * div_ceil n 8
rounded n = omega arith

pub rounded_most : (n : ℕ) → 8 * div_ceil n 8 < n + 8
rounded_most n = omega arith

nothing_yet : (out : List ℕ) → so_far out 0 0 0 ≡ []
unfolding bits
nothing_yet out = refl

-- at the end no bit is held
all_out : (out : List ℕ) (at count held : ℕ) → count ≡ 0 → length out ≤ at
    → so_far out at count held ≡ bits_of_bytes out
unfolding bits
all_out out at count held e h = rw (e, take_all at out h, append-nil) refl

-- the bytes are those of all bits that were put
whole_text : (start out : List ℕ) (at count held n pad : ℕ) (a b : List Bool)
    → ((i : ℕ) → get_or out i 0 < 256) → length out ≡ n → count < 8 → 8 * at + count ≡ 8 * n
    → so_far out at count held ≡ ((so_far start 0 0 0 ++ a) ++ b) ++ bits pad 0
    → out ≡ bytes_of_bits n ((a ++ b) ++ replicate pad false)
whole_text start out at count held n pad a b bytes long few place text =
    let none : count ≡ 0 = omega arith in
    let end : length out ≤ at = omega arith in
    let t : bits_of_bytes out ≡ (a ++ b) ++ replicate pad false =
    sym (all_out out at count held none end) ∙ text
    ∙ ap (λ (y : List Bool). ((y ++ a) ++ b) ++ bits pad 0) (nothing_yet start)
    ∙ ap (λ (y : List Bool). (a ++ b) ++ y) (bits_of_zero pad) in
    sym (bytes_of_bits-bits_of_bytes out bytes)
    ∙ ap (λ (y : ℕ). bytes_of_bits y (bits_of_bytes out)) long
    ∙ ap (λ (y : List Bool). bytes_of_bits n y) t

-- so they are those of the state
pub all_written : (base x : ℕ) (moduli : List ℕ) (registers : List Reg) (start out : List ℕ)
    (at count held size pad w : ℕ) → ((i : ℕ) → get_or out i 0 < 256)
    → size ≡ width base + registers_bits moduli → w ≡ width base → length out ≡ div_ceil size 8
    → pad ≡ div_ceil size 8 * 8 - size → count < 8
    → 8 * at + count ≡ w + registers_bits moduli + pad
    → so_far out at count held ≡ ((so_far start 0 0 0 ++ bits w x) ++ bits_of_registers moduli
    registers) ++ bits pad 0
    → out ≡ written (record { base = base; moduli = moduli })
    (record { x = x; registers = registers })
all_written base x moduli registers start out at count held size pad w bytes sum first long rest few
    place text =
    let n : 8 * at + count ≡ 8 * div_ceil size 8 = omega (arith, rounded size) in
    let p : pad ≡ 8 * div_ceil size 8 - size = omega arith in
    whole_text start out at count held (div_ceil size 8) pad (bits w x)
    (bits_of_registers moduli registers) bytes long few n text
    ∙ ap (λ (y : ℕ). bytes_of_bits (div_ceil size 8)
    ((bits y x ++ bits_of_registers moduli registers) ++ replicate pad false)) first
    ∙ ap (λ (y : ℕ). bytes_of_bits (div_ceil size 8)
    ((bits (width base) x ++ bits_of_registers moduli registers) ++ replicate y false)) p
    ∙ ap (λ (y : ℕ). bytes_of_bits (div_ceil y 8)
    ((bits (width base) x ++ bits_of_registers moduli registers) ++ replicate (8 * div_ceil y 8 - y)
    false)) sum

-- a state by its parts
abbrev pub state_with : ℕ → List Reg → State
state_with x registers = record { x = x; registers = registers }
