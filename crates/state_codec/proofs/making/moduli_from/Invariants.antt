use Rattle.std.proofs.Common.{◌≡◌, ◌+◌, map, slice_index, if◌then◌else◌, nat_lt}
use Rattle.std.specs.List.{range_with_len}
use Rattle.state_codec.proofs.making.moduli_from.Given as goal

abbrev pub invariant-loop-i : goal.invariant-loop-i
invariant-loop-i l = l.found.items ≡ map
    (λ i. if nat_lt (i + 1) l.low then 0 else slice_index l.moduli i) (range_with_len 0 l.i)
