use Rattle.std.proofs.Common.{◌≡◌, ◌++◌, map, drop}
use Rattle.std.specs.Prelude.{string_bytes}
use Rattle.attack.specs.Requests.{named_kinds}
use Rattle.attack.proofs.requests.named_kinds.Given as goal

abbrev pub invariant-loop-word : goal.invariant-loop-word
invariant-loop-word l =
    l.kinds.items ++ named_kinds (map string_bytes (drop l.word-index l.words))
    ≡ named_kinds (map string_bytes l.words)
