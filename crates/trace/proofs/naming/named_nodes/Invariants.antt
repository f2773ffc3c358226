use Rattle.std.proofs.Common.{◌≡◌, map}
use Rattle.std.specs.Prelude.{string_bytes}
use Rattle.trace.specs.Names.{named_nodes}
use Rattle.trace.proofs.naming.named_nodes.Given as goal

abbrev pub invariant-loop-v : goal.invariant-loop-v
invariant-loop-v l = l.named.items ≡ named_nodes (map string_bytes l.words) l.v
