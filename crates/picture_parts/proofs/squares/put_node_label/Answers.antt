use Rattle.std.specs.Prelude.{◌%◌}
use Rattle.picture_parts.proofs.Parts.{writes_unless_is}
use Rattle.picture_parts.proofs.squares.put_node_label.Goals as goal

pub returns-else-spot-eq0 : goal.returns-else-spot-eq0
returns-else-spot-eq0 g c = writes_unless_is (c.args.spot.column % 120) 0 _ c.if-spot-eq0.false
