use Rattle.std.proofs.Common.{◌≡◌, map, drop}
use Rattle.std.specs.Prelude.{string_bytes}
use Rattle.attack.specs.Requests.{are_kinds}
use Rattle.attack.proofs.requests.are_kinds.Given as goal

abbrev pub invariant-loop-word : goal.invariant-loop-word
invariant-loop-word l =
    are_kinds (map string_bytes (drop l.word-index l.words))
    ≡ are_kinds (map string_bytes l.words)
