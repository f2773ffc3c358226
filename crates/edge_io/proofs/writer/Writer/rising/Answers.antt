use Rattle.edge_io.proofs.Writing.{writes_then, writes_held, writes_more}
use Rattle.edge_io.specs.Rising.{labelled_text}
use Rattle.edge_io.proofs.writer.Writer.rising.Goals as goal

pub returns-then-make_room : goal.returns-then-make_room
returns-then-make_room g c = writes_then c.make_room.ensures.nothing
    (writes_held c.if-make_room.ensures.unfailed c.hold_rising.ensures.still
    c.hold_rising.ensures.wrote)

pub returns-else-make_room : goal.returns-else-make_room
returns-else-make_room g c = writes_more (labelled_text c.args.number.now)
    c.if-make_room.ensures.unfailed c.make_room.ensures.nothing
