use Rattle.std.proofs.Common.{take}
use Rattle.edge_io.specs.Pieces.{pieces_text}
use Rattle.edge_io.specs.Writing.{Writes}
use Rattle.edge_io.proofs.writer.Writer.pieces.Given as goal

abbrev pub invariant-loop-piece : goal.invariant-loop-piece
invariant-loop-piece g l =
    Writes g.K.Sink.told (pieces_text (take l.piece-index l.pieces)) l.fn.self l.self
