-- What the fields of a state keep: moduli within the limits, how many bits the number has, how many
-- each register, how many stand before it, and how many all make.
use Rattle.std.specs.Prelude.{◌≡◌, ℕ, ◌+◌, ◌-◌, ◌^◌, ◌<◌, ◌≤◌, List, length, take, slice_index_or}
use Rattle.construction.specs.Widths.{width}
use Rattle.state_codec.specs.Shapes.{IsFields, bits_in, register_bits, registers_bits}

pub record IsValidFields (base : ℕ) (moduli offsets sizes : List ℕ) (front size : ℕ) : Type 0 where
  pub fields : IsFields (record { base = base; moduli = moduli })
  pub room : length offsets ≡ length moduli
  pub begins : (i : ℕ) → i < length moduli
      → slice_index_or offsets i 0 ≡ width base + registers_bits (take i moduli)
  pub rooms : length sizes ≡ length moduli
  pub each : (i : ℕ) → i < length moduli
      → slice_index_or sizes i 0 ≡ register_bits (slice_index_or moduli i 0)
  pub first : front ≡ width base
  pub holds : base - 1 < 2 ^ front
  pub short : front ≤ 41
  pub few : size ≤ 1024
  pub sum : size ≡ bits_in (record { base = base; moduli = moduli })
