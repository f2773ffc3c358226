use Rattle.std.proofs.Common.{[], ◌∷◌}
use Rattle.edge_io.proofs.Writing.{writes_then, writes_held, writes_more}
use Rattle.edge_io.proofs.writer.Writer.byte.Goals as goal

pub returns-then-make_room : goal.returns-then-make_room
returns-then-make_room g c = writes_then c.make_room.ensures.nothing
    (writes_held c.if-make_room.ensures.unfailed c.hold_byte.ensures.still
    c.hold_byte.ensures.wrote)

pub returns-else-make_room : goal.returns-else-make_room
returns-else-make_room g c =
    writes_more (c.args.byte ∷ []) c.if-make_room.ensures.unfailed c.make_room.ensures.nothing
