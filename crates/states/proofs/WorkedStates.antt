-- The worked values, by computation.
use Rattle.std.proofs.Common.{refl}
use Rattle.std.specs.Fmt.{digits}
use Rattle.hex.specs.Hex.{decode_pairs, encode_with}
use Rattle.construction.specs.Widths.{width}
use Rattle.state_codec.specs.Bits.{bits, number_of, bytes_of_bits}
use Rattle.state_codec.specs.Shapes.{registers_bits, moduli_of}
use Rattle.state_codec.specs.Reading.{registers_from}
use Rattle.state_codec.specs.Writing.{bits_of_registers}
use Rattle.states.specs.Worked.{StatesAreSpelled}

pub states_are_spelled : StatesAreSpelled
unfolding
    digits width number_of bits bytes_of_bits registers_from registers_bits bits_of_registers
    moduli_of decode_pairs encode_with
states_are_spelled = record {
  turned = refl;
  form = refl;
  node = refl;
  digits = refl;
  fields = refl;
  range = refl;
}
