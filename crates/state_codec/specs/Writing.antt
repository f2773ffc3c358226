-- The bits and the bytes of a state.
use Rattle.std.specs.Prelude.{ℕ, ◌+◌, ◌-◌, ◌*◌, ◌==◌, if◌then◌else◌, List, [], ◌∷◌, ◌++◌, Bool}
use Rattle.std.specs.Prelude.{false, replicate, unwrap_or}
use Rattle.std.specs.List.{flat_map, zip}
use Rattle.sync_types.specs.States.{State}
use Rattle.sync_types.specs.declared.states.Reg.{Reg}
use Rattle.state_codec.specs.Bits.{bits, bytes_of_bits}
use Rattle.construction.specs.Widths.{width}
use Rattle.state_codec.specs.Shapes.{Fields, bits_in, bytes_in}

-- the bits of a register that is there: its value, infinity being the modulus, and its mark
abbrev pub full_bits : (modulus : ℕ) → Reg → List Bool
full_bits modulus register =
    bits (width (modulus + 1)) (unwrap_or register.a modulus) ++ register.d ∷ []

-- the bits of a register; one that is lacking has none
abbrev pub bits_of_register : (modulus : ℕ) → Reg → List Bool
bits_of_register modulus register = if modulus == 0 then [] else full_bits modulus register

-- the bits of all registers, the lowest first
unfoldable pub bits_of_registers : List ℕ → List Reg → List Bool
bits_of_registers moduli registers =
    flat_map (λ (modulus, register). bits_of_register modulus register) (zip moduli registers)

-- the bits of a state, most significant first: its number, and its registers
abbrev pub bits_of_state : Fields → State → List Bool
bits_of_state fields state =
    bits (width fields.base) state.x ++ bits_of_registers fields.moduli state.registers

-- zeros up to a whole byte
abbrev pub padding : Fields → List Bool
padding fields = replicate (8 * bytes_in fields - bits_in fields) false

-- the bytes of a state
abbrev pub written : Fields → State → List ℕ
written fields state = bytes_of_bits (bytes_in fields)
    (bits_of_state fields state ++ padding fields)
