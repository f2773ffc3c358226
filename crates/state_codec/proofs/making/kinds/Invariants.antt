use Rattle.std.proofs.Common.{◌≡◌, map}
use Rattle.std.specs.List.{range_with_len}
use Rattle.state_codec.specs.Shapes.{fields_from, all_over}
use Rattle.state_codec.proofs.making.kinds.Given as goal

abbrev pub invariant-loop-low : goal.invariant-loop-low
invariant-loop-low l =
    l.kinds.items
    ≡ map (fields_from (all_over l.plan l.moduli.items.items)) (range_with_len 0 l.low)
