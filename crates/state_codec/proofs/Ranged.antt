-- What is read is in range.
use Rattle.std.proofs.Common.{◌≡◌, ◌≢◌, get_or, cond, not, ℕ, zero, suc, ◌+◌, ◌<◌, Bool, true}
use Rattle.std.proofs.Common.{false, length, take, drop, List, [], ◌∷◌, refl, ap, arith, Some, None}
use Rattle.std.proofs.Common.{replicate, nat_lt, ◌==◌, if◌then◌else◌}
use Rattle.std.specs.Prelude.{unwrap_or, IfSome, slice_index_or}
use Rattle.std.proofs.lemmas.List.{length-replicate}
use Rattle.std.proofs.lemmas.Bool.{ltb-true, eqb-false}
use Rattle.state_codec.specs.Bits.{number_of, bits_of_bytes}
use Rattle.construction.specs.Widths.{width}
use Rattle.sync_types.specs.States.{zero_state, zero_register}
use Rattle.state_codec.specs.Shapes.{Fields, IsFields, register_bits, bytes_in}
use Rattle.state_codec.specs.Ranges.{IsField, AreBelow, InRange}
use Rattle.construction.specs.Runs.{IsRegister}
use Rattle.state_codec.specs.Reading.{full_register, register_from, registers_from, state_from}
use Rattle.state_codec.specs.Reading.{read}

lt_from : (c : ℕ) → c ≢ 0 → 0 < c
lt_from zero ne = absurd (ne refl)
lt_from (suc c) ne = omega arith

value_below : (c n : ℕ) (b : Bool) → nat_lt n c ≡ b
    → IfSome (if b then Some n else None) (λ a. a < c)
value_below c n true e = ltb-true n c e
value_below c n false e = tt

number_below : (c n : ℕ) (b : Bool) → 0 < c → nat_lt n c ≡ b
    → unwrap_or (if b then Some n else None) 0 < c
number_below c n true p e = ltb-true n c e
number_below c n false p e = p

pub length-registers_from : (cs : List ℕ) (bs : List Bool)
    → length (registers_from cs bs) ≡ length cs
unfolding registers_from
length-registers_from [] bs = refl
length-registers_from (c ∷ cs) bs = ap suc (length-registers_from cs (drop (register_bits c) bs))

field_by : (b : Bool) (c : ℕ) (bs : List Bool)
    → IsRegister (not b) c (cond b zero_register (full_register c bs))
field_by true c bs = refl
field_by false c bs = value_below c (number_of (take (width (c + 1)) bs))
    (nat_lt (number_of (take (width (c + 1)) bs)) c) refl

field_below : (c : ℕ) (bs : List Bool) → IsField c (register_from c bs)
field_below c bs = field_by (c == 0) c bs

zero_by : (b : Bool) (c : ℕ) → (c == 0) ≡ b → IsRegister (not b) c zero_register
zero_by true c e = refl
zero_by false c e = let ne = eqb-false c 0 e in lt_from c ne

registers_below : (cs : List ℕ) (bs : List Bool) → AreBelow cs (registers_from cs bs)
unfolding registers_from
registers_below [] bs i h = absurd (omega arith)
registers_below (c ∷ cs) bs zero h = field_below c bs
registers_below (c ∷ cs) bs (suc i) h =
    registers_below cs (drop (register_bits c) bs) i (omega arith)

zero_at : (n i : ℕ) → slice_index_or (replicate n zero_register) i zero_register ≡ zero_register
zero_at zero i = refl
zero_at (suc n) zero = refl
zero_at (suc n) (suc i) = zero_at n i

zeros_below : (cs : List ℕ) (n : ℕ) → AreBelow cs (replicate n zero_register)
zeros_below cs n i h = rw (zero_at n i) (zero_by (get_or cs i 0 == 0) (get_or cs i 0) refl)

-- the state of any bits
state_from_in_range : (fields : Fields) (bs : List Bool) → IsFields fields
    → InRange fields (state_from fields bs)
state_from_in_range fields bs sound =
    let least = sound.least in
    record {
      depth = length-registers_from fields.moduli (drop (width fields.base) bs);
      x = number_below fields.base (number_of (take (width fields.base) bs))
          (nat_lt (number_of (take (width fields.base) bs)) fields.base) (omega arith) refl;
      values = registers_below fields.moduli (drop (width fields.base) bs);
    }

-- the zero state
pub zero_in_range : (fields : Fields) → IsFields fields
    → InRange fields (zero_state (length fields.moduli))
zero_in_range fields sound =
    let least = sound.least in
    record {
      depth = length-replicate (length fields.moduli) zero_register;
      x = omega arith;
      values = zeros_below fields.moduli (length fields.moduli);
    }

by_length : (fields : Fields) (bytes : List ℕ) (b : Bool) → IsFields fields
    → InRange fields (if b then state_from fields (bits_of_bytes bytes)
    else zero_state (length fields.moduli))
by_length fields bytes true sound = state_from_in_range fields (bits_of_bytes bytes) sound
by_length fields bytes false sound = zero_in_range fields sound

pub read_is_in_range : (fields : Fields) (bytes : List ℕ) → IsFields fields
    → InRange fields (read fields bytes)
read_is_in_range fields bytes sound = by_length fields bytes (length bytes == bytes_in fields) sound
