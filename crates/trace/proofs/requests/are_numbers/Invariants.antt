use Rattle.std.proofs.Common.{◌≡◌, map, drop}
use Rattle.std.specs.Prelude.{string_bytes}
use Rattle.trace.specs.Requests.{are_numbers}
use Rattle.trace.proofs.requests.are_numbers.Given as goal

abbrev pub invariant-loop-word : goal.invariant-loop-word
invariant-loop-word l =
    are_numbers (map string_bytes (drop l.word-index l.words))
    ≡ are_numbers (map string_bytes l.words)
