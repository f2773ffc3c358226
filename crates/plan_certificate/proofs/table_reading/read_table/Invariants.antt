use Rattle.std.proofs.Common.{◌+◌, ◌≤◌, length}
use Rattle.plan_certificate.proofs.TableEnds.{IsReadTo}
use Rattle.plan_certificate.proofs.table_reading.read_table.Given as goal

abbrev pub invariant-loop-line : goal.invariant-loop-line
invariant-loop-line l = record {
  fits : l.number + length l.rest ≤ 1 + length l.fn.bytes;
  read : IsReadTo l.fn.bytes l.reader l.number l.rest;
}

abbrev pub decreases-loop-line : goal.decreases-loop-line
decreases-loop-line l = length l.rest
