use Rattle.std.proofs.Common.{◌≡◌, take, map, All}
use Rattle.std.specs.List.{range_with_len}
use Rattle.trace_pictures.specs.TraceSaid.{IsLevelSaid}
use Rattle.trace_pictures.proofs.trace_said.are_levels_said.Given as goal

abbrev pub invariant-loop-k : goal.invariant-loop-k
invariant-loop-k l = record {
  said : All (IsLevelSaid l.notes) (take l.k l.levels);
  places : map (λ level. level.place) (take l.k l.levels) ≡ range_with_len 0 l.k;
}
