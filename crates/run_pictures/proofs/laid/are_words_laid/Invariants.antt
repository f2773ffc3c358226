use Rattle.std.proofs.Common.{◌≡◌, ◌+◌, ◌*◌, ◌<◌, take, map, All}
use Rattle.std.specs.List.{range_with_len}
use Rattle.run_pictures.proofs.laid.are_words_laid.Given as goal

abbrev pub invariant-loop-k : goal.invariant-loop-k
invariant-loop-k l = record {
  words : map (λ cell. cell.row * l.nodes + cell.node) (take l.k l.cells)
      ≡ range_with_len 0 l.k;
  nodes : All (λ cell. cell.node < l.nodes) (take l.k l.cells);
}
