use Rattle.std.proofs.lemmas.List.Elements.{All-more}
use Rattle.trace_pictures.specs.TraceSaid.{IsLevelSaid}
use Rattle.picture_parts.proofs.Laying.{one_more}
use Rattle.trace_pictures.proofs.trace_said.are_levels_said.Goals as goal

pub loop-k-preserved : goal.loop-k-preserved
loop-k-preserved c = record {
  said = All-more (IsLevelSaid c.args.notes.now) c.args.levels.now c.loop-k.k _
      c.loop-k-test.true c.loop-k.invariant.said
      (record {
        there = c.has_line.ensures c.if-not-has_line.false;
        blocks = c.has_blocks.ensures c.if-not-has_blocks.false;
      });
  places = one_more (λ level. level.place) c.args.levels.now c.loop-k.k _ c.loop-k-test.true
      c.loop-k.invariant.places c.if-level-k.false;
}
