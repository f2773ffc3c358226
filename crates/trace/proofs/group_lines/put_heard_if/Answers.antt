use Rattle.edge_io.proofs.Writing.{writes_is, writes_none}
use Rattle.trace.proofs.Counts.{counted_is}
use Rattle.trace.proofs.group_lines.put_heard_if.Goals as goal

pub returns-then-seen : goal.returns-then-seen
returns-then-seen g c =
    let seen = c.args.seen.now in
    let said = c.count_said-said.ensures in
    rw c.if-seen.true (writes_is
    (counted_is seen.group c.args.own.now seen.heard.now c.count_said-said.result said.saw
    said.backed said.left said.instruction said.same said.least)
    c.put_said.ensures)

pub returns-else-seen : goal.returns-else-seen
returns-else-seen g c = rw c.if-seen.false writes_none
