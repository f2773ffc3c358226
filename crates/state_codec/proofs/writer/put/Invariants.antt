use Rattle.std.proofs.Common.{◌+◌, ◌≡◌, ◌≤◌, ◌*◌, ◌++◌, length}
use Rattle.state_codec.specs.Bits.{bits}
use Rattle.state_codec.specs.Cursors.{so_far}
use Rattle.state_codec.proofs.writer.put.Given as goal

abbrev pub invariant-loop-count : goal.invariant-loop-count
invariant-loop-count l = record {
  size_kept : length l.out ≡ length l.fn.out;
  text : so_far l.out l.at l.count l.both
      ≡ so_far l.fn.out l.fn.pending.at l.fn.pending.count l.fn.pending.held
      ++ bits l.fn.number.size
      l.fn.number.value;
  place : 8 * l.at + l.count ≡ 8 * l.fn.pending.at + l.fn.pending.count + l.fn.number.size;
  small : l.count ≤ 63;
}

abbrev pub decreases-loop-count : goal.decreases-loop-count
decreases-loop-count l = l.count
