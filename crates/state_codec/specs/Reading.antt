-- The state that bytes stand for.
use Rattle.std.specs.Prelude.{ℕ, ◌+◌, ◌==◌, nat_lt, List, [], ◌∷◌, length, take, drop, Bool, false}
use Rattle.std.specs.Prelude.{if◌then◌else◌, Option, Some, None, unwrap_or, slice_index_or}
use Rattle.sync_types.specs.States.{State, zero_state, zero_register}
use Rattle.sync_types.specs.declared.states.Reg.{Reg}
use Rattle.state_codec.specs.Bits.{number_of, bits_of_bytes}
use Rattle.construction.specs.Widths.{width}
use Rattle.state_codec.specs.Shapes.{Fields, register_bits, bytes_in}

-- a number, if it is below the modulus
abbrev pub below : (modulus n : ℕ) → Option ℕ
below modulus n = if nat_lt n modulus then Some n else None

-- a register that is there: a value of the modulus or more is infinite
abbrev pub full_register : (modulus : ℕ) → List Bool → Reg
full_register modulus bs = record {
  a = below modulus (number_of (take (width (modulus + 1)) bs));
  d = slice_index_or bs (width (modulus + 1)) false;
}

-- the register of the first bits; one that is lacking is zero
abbrev pub register_from : (modulus : ℕ) → List Bool → Reg
register_from modulus bs = if modulus == 0 then zero_register else full_register modulus bs

-- the registers of the first bits, one after the other
unfoldable pub registers_from : List ℕ → List Bool → List Reg
registers_from [] bs = []
registers_from (modulus ∷ moduli) bs =
    register_from modulus bs ∷ registers_from moduli (drop (register_bits modulus) bs)

-- the state of the first bits: a number of the modulus or more is 0
abbrev pub state_from : Fields → List Bool → State
state_from fields bs = record {
  x = unwrap_or (below fields.base (number_of (take (width fields.base) bs))) 0;
  registers = registers_from fields.moduli (drop (width fields.base) bs);
}

-- the state of bytes: that of their bits, or the zero state if there are not so many bytes as a
-- state has
abbrev pub read : Fields → List ℕ → State
read fields bytes =
    if length bytes == bytes_in fields then state_from fields (bits_of_bytes bytes)
    else zero_state (length fields.moduli)
