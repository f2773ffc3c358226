use Rattle.std.proofs.Common.{◌≡◌, take, map}
use Rattle.std.specs.List.{range_with_len}
use Rattle.run_pictures.proofs.laid.are_lines_laid.Given as goal

abbrev pub invariant-loop-k : goal.invariant-loop-k
invariant-loop-k l = map (λ end. end.place) (take l.k l.ends) ≡ range_with_len 0 l.k
