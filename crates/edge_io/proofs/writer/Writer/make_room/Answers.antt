use Rattle.std.proofs.Common.{◌∙◌}
use Rattle.edge_io.proofs.Writing.{writes_none, writes_held}
use Rattle.edge_io.proofs.writer.Writer.make_room.Goals as goal

pub returns-then-count-self-clause-nothing : goal.returns-then-count-self-clause-nothing
returns-then-count-self-clause-nothing g c = writes_none

pub returns-in-Ok-clause-nothing : goal.returns-in-Ok-clause-nothing
returns-in-Ok-clause-nothing g c =
    writes_held c.if-self.false c.in-Ok.ensures.still c.in-Ok.ensures.puts

pub returns-in-Ok-clause-unfailed : goal.returns-in-Ok-clause-unfailed
returns-in-Ok-clause-unfailed g c = c.in-Ok.ensures.still ∙ c.if-self.false
