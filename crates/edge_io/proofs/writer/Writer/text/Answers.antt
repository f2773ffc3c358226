use Rattle.std.proofs.Common.{◌+◌, ◌∙◌, length, arith, take_all}
use Rattle.edge_io.proofs.Held.{part_taken}
use Rattle.edge_io.proofs.Writing.{writes_then, writes_none, writes_is}
use Rattle.edge_io.proofs.writer.Writer.text.Goals as goal

pub loop-at-init : goal.loop-at-init
loop-at-init g c = record { within = omega arith; writes = writes_none }

pub loop-at-preserved : goal.loop-at-preserved
loop-at-preserved g c =
    let at = c.loop-at.at in
    let count = c.next_room-count.result in
    let most = c.next_room-count.ensures.most in
    record {
      within = omega (arith, c.loop-at-test.true, c.loop-at.invariant.within, most);
      writes = writes_is (part_taken at (at + count) c.args.bytes.now (omega arith))
          (writes_then c.loop-at.invariant.writes c.short_text.ensures);
    }

pub returns : goal.returns
returns g c =
    let size = length c.args.bytes.now in
    let all = part_taken c.loop-at.at size c.args.bytes.now c.loop-at.invariant.within
    ∙ take_all size c.args.bytes.now (omega arith) in
    writes_is all (writes_then c.loop-at.invariant.writes c.short_text-2.ensures)
