use Rattle.std.proofs.Common.{◌≡◌, map, drop}
use Rattle.std.specs.Prelude.{string_bytes}
use Rattle.trace.specs.Names.{is_named}
use Rattle.trace.proofs.naming.is_named.Given as goal

abbrev pub invariant-loop-word : goal.invariant-loop-word
invariant-loop-word l =
    is_named (map string_bytes (drop l.word-index l.words)) l.v
    ≡ is_named (map string_bytes l.words) l.v
