use Rattle.std.proofs.Common.{◌≡◌, ℕ, ◌<◌, length, slice_index, slice_index_or}
use Rattle.sync_types.specs.States.{register_at, zero_register}
use Rattle.construction.specs.Steps.{state_of}
use Rattle.state_codec.specs.Shapes.{fields_at}
use Rattle.adversary_script.specs.Lies.{shifted_register}
use Rattle.adversary_script.proofs.shifting.Source.shift_registers.Given as goal

abbrev pub invariant-loop-i : goal.invariant-loop-i
invariant-loop-i l = record {
  number : l.out.x ≡ l.fn.out.x;
  depth : length l.out.registers ≡ l.self.config.now.shape.depth;
  filled : (j : ℕ) → j < l.i → slice_index_or l.out.registers j zero_register ≡ shifted_register
      l.by (slice_index (fields_at l.self.config.now.shape l.self.v).moduli j)
      (register_at j (state_of l.self.config.now.current l.self.w));
}
