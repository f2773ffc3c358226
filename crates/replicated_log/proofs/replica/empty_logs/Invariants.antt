use Rattle.std.proofs.Common.{◌≡◌, []}
use Rattle.std.specs.Prelude.{replicate}
use Rattle.circular_buffer.specs.Buffer.{buffer}
use Rattle.replicated_log.proofs.replica.empty_logs.Given as goal

abbrev pub invariant-loop : goal.invariant-loop
invariant-loop l = l.logs.items ≡ replicate l.counter (buffer [] l.fn.keep)
