-- The worked values of lies, by computation.
use Rattle.std.proofs.Common.{refl}
use Rattle.construction.specs.Widths.{width}
use Rattle.state_codec.specs.Bits.{bits, number_of}
use Rattle.state_codec.specs.Shapes.{registers_bits}
use Rattle.state_codec.specs.Reading.{registers_from}
use Rattle.adversary_script.specs.Lies.{fitted_register}
use Rattle.adversary_script.specs.Noise.{key_in, noise_state}
use Rattle.rand_chacha.specs.Block.{block_word, double_rounds, column_round, diagonal_round}
use Rattle.rand_chacha.specs.Block.{quarter_round}
use Rattle.rand_core.specs.Steps.{u32_at}
use Rattle.promises.specs.WorkedLies.{LiesAreWorked}

pub lies_are_worked : LiesAreWorked
unfolding
    width number_of registers_bits registers_from fitted_register key_in noise_state block_word
    double_rounds column_round diagonal_round quarter_round u32_at bits
lies_are_worked = record {
  copy = refl;
  said = refl;
  shift = refl;
  infinite = refl;
  noise = refl;
  keyed = refl;
  later = refl;
  start = refl;
  zero = refl;
  fits = refl;
}
