use Rattle.std.proofs.Common.{◌≡◌, map}
use Rattle.std.specs.List.{range_with_len}
use Rattle.construction.specs.Plans.{low_of}
use Rattle.state_codec.proofs.making.node_lows.Given as goal

abbrev pub invariant-loop-v : goal.invariant-loop-v
invariant-loop-v l = l.lows.items ≡ map (low_of l.plan.levels) (range_with_len 0 l.v)
