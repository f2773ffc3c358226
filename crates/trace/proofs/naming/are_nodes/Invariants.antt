use Rattle.std.proofs.Common.{◌≡◌, map, drop}
use Rattle.std.specs.Prelude.{string_bytes}
use Rattle.trace.specs.Names.{are_nodes}
use Rattle.trace.proofs.naming.are_nodes.Given as goal

abbrev pub invariant-loop-word : goal.invariant-loop-word
invariant-loop-word l =
    are_nodes (map string_bytes (drop l.word-index l.words)) l.nodes
    ≡ are_nodes (map string_bytes l.words) l.nodes
