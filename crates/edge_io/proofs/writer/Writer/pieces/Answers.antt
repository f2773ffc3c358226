use Rattle.edge_io.specs.Pieces.{piece_text}
use Rattle.edge_io.proofs.Writing.{writes_none, writes_at}
use Rattle.edge_io.proofs.writer.Writer.pieces.Goals as goal

pub loop-piece-init : goal.loop-piece-init
loop-piece-init g c = writes_none

pub loop-piece-preserved : goal.loop-piece-preserved
loop-piece-preserved g c =
    writes_at piece_text c.args.pieces.now c.loop-piece.piece-index _ c.loop-piece-test.true
    c.loop-piece.invariant c.piece.ensures
