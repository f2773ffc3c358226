use Rattle.std.proofs.Common.{ℕ, ◌≡◌, ◌<◌, ◌+◌, take, length, get_or}
use Rattle.state_codec.specs.Shapes.{register_bits, registers_bits}
use Rattle.state_codec.proofs.fields.Fields.new.Given as goal

abbrev pub invariant-loop-i : goal.invariant-loop-i
invariant-loop-i l = record {
  size : l.size ≡ l.front + registers_bits (take l.i l.moduli.items);
  room : length l.offsets.items ≡ length l.moduli.items;
  rooms : length l.sizes.items ≡ length l.moduli.items;
  offsets : (j : ℕ) → j < l.i
      → get_or l.offsets.items j 0 ≡ l.front + registers_bits (take j l.moduli.items);
  sizes : (j : ℕ) → j < l.i → get_or l.sizes.items j 0 ≡ register_bits (get_or l.moduli.items j 0);
}
