use Rattle.std.proofs.Common.{◌≤◌, ◌-◌, length, take}
use Rattle.edge_io.specs.Writing.{Writes}
use Rattle.edge_io.proofs.writer.Writer.text.Given as goal

abbrev pub invariant-loop-at : goal.invariant-loop-at
invariant-loop-at g l = record {
  within : l.at ≤ length l.bytes;
  writes : Writes g.K.Sink.told (take l.at l.bytes) l.fn.self l.self;
}

abbrev pub decreases-loop-at : goal.decreases-loop-at
decreases-loop-at g l = length l.bytes - l.at
