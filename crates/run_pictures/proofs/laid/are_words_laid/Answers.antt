use Rattle.std.proofs.Common.{◌+◌, ◌*◌, ◌<◌, sym, ◌∙◌}
use Rattle.std.proofs.lemmas.List.Elements.{All-more}
use Rattle.picture_parts.proofs.Laying.{one_more}
use Rattle.run_pictures.proofs.laid.are_words_laid.Goals as goal

pub loop-k-preserved : goal.loop-k-preserved
loop-k-preserved c = record {
  words = one_more (λ cell. cell.row * c.args.nodes + cell.node) c.args.cells.now c.loop-k.k _
      c.loop-k-test.true c.loop-k.invariant.words (sym c.place_of.ensures ∙ c.if-place_of-k.false);
  nodes = All-more (λ cell. cell.node < c.args.nodes) c.args.cells.now c.loop-k.k _
      c.loop-k-test.true c.loop-k.invariant.nodes c.if-cell-nodes.false;
}
