use Rattle.std.proofs.Common.{◌≡◌, ◌≤◌, ◌*◌, map}
use Rattle.std.specs.List.{range_with_len}
use Rattle.state_codec.specs.Packs.{start_of}
use Rattle.state_codec.proofs.packed.starts_of.Given as goal

abbrev pub invariant-loop-v : goal.invariant-loop-v
invariant-loop-v l = record {
  made : l.starts.items ≡ map (start_of l.shape) (range_with_len 0 l.v);
  end : l.start ≡ start_of l.shape l.v;
  few : l.start ≤ 128 * l.v;
}
