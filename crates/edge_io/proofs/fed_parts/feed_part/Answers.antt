use Rattle.std.proofs.Common.{refl, ◌∙◌}
use Rattle.edge_io.proofs.Standing.{stands_first}
use Rattle.edge_io.proofs.FedLines.{takes_goes, takes_ends, takes_refuses, stands_more, ends_here}
use Rattle.edge_io.proofs.FedLines.{refuses_here, lost_here, halted_here}
use Rattle.edge_io.proofs.FedEnds.{skips_refuse_long, long_here, end_here, too_long}
use Rattle.edge_io.proofs.LastLines.{open_here}
use Rattle.edge_io.proofs.fed_parts.feed_part.Goals as goal

pub loop-line-init : goal.loop-line-init
loop-line-init g c =
    record {
      same = refl;
      still = refl;
      met = refl;
      stands = stands_first _ _ _ _ _ _ _ c.requires.room;
    }

pub returns-in-Err-ReadFault-clause-fed : goal.returns-in-Err-ReadFault-clause-fed
returns-in-Err-ReadFault-clause-fed g c =
    let read = c.in-Err-ReadFault.ensures in
    lost_here _ _ _ _ _ _ _ _ _ _ _ _ _ c.line.new.self.line_bytes _ read.one read.short
    c.loop-line.invariant.stands (rw c.in-Err-ReadFault.field-0-is at read.line)

pub returns-in-Err-TooLong-clause-fed : goal.returns-in-Err-TooLong-clause-fed
returns-in-Err-TooLong-clause-fed g c =
    let read = c.in-Err-TooLong.ensures in
    too_long _ _ _ _ _ _ _ _ _ _ _ _ _ c.line.new.self.line_bytes _ read.one read.short
    c.loop-line.invariant.stands (rw c.in-Err-TooLong.field-0-is at read.line)

pub returns-in-Open-clause-fed : goal.returns-in-Open-clause-fed
returns-in-Open-clause-fed g c =
    let read = c.in-Ok.ensures in
    open_here _ _ _ _ _ _ _ _ _ _ _ _ _ _ _ read.one read.short c.loop-line.invariant.stands _
    (rw c.in-Open.is at read.line) (rw c.bytes.ensures at c.last_line.ensures.last)

pub returns-in-Long-clause-fed : goal.returns-in-Long-clause-fed
returns-in-Long-clause-fed g c =
    let read = c.in-Ok.ensures in
    rw c.refused.ensures (long_here _ _ _ _ _ _ _ _ _ _ _ _ _ _ _ read.one read.short
    c.loop-line.invariant.stands (skips_refuse_long _ _) (rw c.in-Long.is at read.line))

pub returns-in-End-clause-fed : goal.returns-in-End-clause-fed
returns-in-End-clause-fed g c =
    let read = c.in-Ok.ensures in
    rw c.refused-in-End.ensures (end_here _ _ _ _ _ _ _ _ _ _ _ _ _ _ _ read.one read.short
    c.loop-line.invariant.stands (rw c.in-End.is at read.line))

pub returns-in-Ok-Some-clause-fed : goal.returns-in-Ok-Some-clause-fed
returns-in-Ok-Some-clause-fed g c =
    let read = c.in-Ok.ensures in
    let took = rw (c.in-Ok-Some.field-0-is, c.bytes-in-loop-line.ensures) at c.in-Ok-Some.ensures in
    ends_here _ _ _ _ _ _ _ _ _ _ _ _ _ _ _ read.one read.short c.loop-line.invariant.stands _
    (rw c.in-Whole.is at read.line) (takes_ends _ _ _ took)

pub returns-in-Err-Refused-clause-fed : goal.returns-in-Err-Refused-clause-fed
returns-in-Err-Refused-clause-fed g c =
    let read = c.in-Ok.ensures in
    let took =
    rw (c.in-Err-Refused.field-0-is, c.bytes-in-loop-line.ensures) at c.in-Err-Refused.ensures in
    rw (c.refused-in-Err-Refused.ensures, c.in-Err-Refused.rule-is)
    (refuses_here _ _ _ _ _ _ _ _ _ _ _ _ _ _ _ read.one read.short c.loop-line.invariant.stands _
    (rw c.in-Whole.is at read.line) (takes_refuses _ _ _ took))

pub returns-in-Err-NoMemory-clause-fed : goal.returns-in-Err-NoMemory-clause-fed
returns-in-Err-NoMemory-clause-fed g c =
    let read = c.in-Ok.ensures in
    halted_here _ _ _ _ _ _ _ _ _ _ _ _ _ _ _ read.one read.short c.loop-line.invariant.stands
    (rw c.in-Whole.is at read.line)

pub loop-line-preserved : goal.loop-line-preserved
loop-line-preserved g c =
    let read = c.in-Ok.ensures in
    let took = rw (c.in-Ok-None.field-0-is, c.bytes-in-loop-line.ensures) at c.in-Ok-None.ensures in
    record {
      same = read.same_reference ∙ c.loop-line.invariant.same;
      still = read.cause ∙ c.loop-line.invariant.still;
      met = rw c.in-Whole.is at read.met ∙ c.loop-line.invariant.met;
      stands = stands_more _ _ _ _ _ _ _ _ _ _ _ _ _ _ _ read.one read.short
          c.loop-line.invariant.stands _ (rw c.in-Whole.is at read.line) (takes_goes _ _ took);
    }
