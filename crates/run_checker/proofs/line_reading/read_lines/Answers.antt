use Rattle.std.proofs.Common.{refl, ap, ◌∙◌}
use Rattle.edge_io.proofs.FedLines.{takes_goes, takes_ends, takes_refuses}
use Rattle.edge_io.proofs.EndedLines.{starts, short_step, ended_here, refused_here, line_open}
use Rattle.edge_io.proofs.EndedLines.{no_line, too_long_line, beyond_line, goes_on, lost_line}
use Rattle.edge_io.proofs.EndedLines.{halted_line}
use Rattle.edge_io.proofs.AloneLines.{end_met, end_read}
use Rattle.run_checker.specs.Checking.{line_step}
use Rattle.run_checker.proofs.LinesRead.{reads_still, reads_next}
use Rattle.run_checker.proofs.line_reading.read_lines.Goals as goal

pub loop-number-init : goal.loop-number-init
loop-number-init g c =
    record { same = refl; still = refl; met = refl; stands = starts _ _ _ _ _ _ c.requires.none }

pub returns-in-Err-ReadFault-clause-text : goal.returns-in-Err-ReadFault-clause-text
returns-in-Err-ReadFault-clause-text g c =
    let stands = reads_still g.S.Source.left _ _ _ _ _ _ _ _
    (c.take_held.ensures.none c.if-take_held.false)
    c.loop-number.invariant.stands in
    let read = c.in-Err-ReadFault.ensures in
    let line = rw c.in-Err-ReadFault.field-0-is at read.line in
    lost_line _ _ _ _ _ _ _ _ _ _ _ c.line.new.self.line_bytes _ read.one read.short
    stands.1 line

pub returns-in-Err-TooLong-clause-text : goal.returns-in-Err-TooLong-clause-text
returns-in-Err-TooLong-clause-text g c =
    let stands = reads_still g.S.Source.left _ _ _ _ _ _ _ _
    (c.take_held.ensures.none c.if-take_held.false)
    c.loop-number.invariant.stands in
    let read = c.in-Err-TooLong.ensures in
    let line = rw c.in-Err-TooLong.field-0-is at read.line in
    beyond_line _ _ _ _ _ _ _ _ _ _ _ c.line.new.self.line_bytes _ read.one read.short
    stands.1 line

pub returns-in-Open-clause-text : goal.returns-in-Open-clause-text
returns-in-Open-clause-text g c =
    let stands = reads_still g.S.Source.left _ _ _ _ _ _ _ _
    (c.take_held.ensures.none c.if-take_held.false)
    c.loop-number.invariant.stands in
    let read = c.in-Ok.ensures in
    let line = rw c.in-Open.is at read.line in
    rw c.refused.ensures (line_open _ _ _ _ _ _ _ _ _ _ _ c.line.new.self.line_bytes _ read.one
    read.short
    stands.1 line)

pub returns-in-Long-clause-text : goal.returns-in-Long-clause-text
returns-in-Long-clause-text g c =
    let stands = reads_still g.S.Source.left _ _ _ _ _ _ _ _
    (c.take_held.ensures.none c.if-take_held.false)
    c.loop-number.invariant.stands in
    let read = c.in-Ok.ensures in
    let line = rw c.in-Long.is at read.line in
    rw c.refused-in-Long.ensures
    (too_long_line _ _ _ _ _ _ _ _ _ _ _ c.line.new.self.line_bytes _ read.one read.short
    stands.1 line)

pub returns-in-End-clause-text : goal.returns-in-End-clause-text
returns-in-End-clause-text g c =
    let stands = reads_still g.S.Source.left _ _ _ _ _ _ _ _
    (c.take_held.ensures.none c.if-take_held.false)
    c.loop-number.invariant.stands in
    let read = c.in-Ok.ensures in
    let line = rw c.in-End.is at read.line in
    rw c.refused-in-End.ensures
    (no_line _ _ _ _ _ _ _ _ _ _ _ c.line.new.self.line_bytes _ read.one read.short
    stands.1 line)

pub returns-in-Ok-end_of_text-clause-text : goal.returns-in-Ok-end_of_text-clause-text
returns-in-Ok-end_of_text-clause-text g c =
    let stands = reads_still g.S.Source.left _ _ _ _ _ _ _ _
    (c.take_held.ensures.none c.if-take_held.false)
    c.loop-number.invariant.stands in
    let read = c.in-Ok.ensures in
    let line = rw c.in-Whole.is at read.line in
    let took = rw (c.in-Ok-Some.field-0-is, c.bytes.ensures) at c.in-Ok-Some.ensures in
    let alone = ended_here _ _ _ _ _ _ _ _ _ _ _ c.line.new.self.line_bytes _ read.one read.short
    stands.1 c.in-Ok-Some.verdict line
    (short_step line_step tt c.take_held.new.reader _ _ read.short
    (takes_ends _ _ _ took)) in
    end_met _ _ _ _ _ _ _ _ _ _ alone c.in-Ok-end_of_text.ensures.end

pub returns-in-Err-clause-text : goal.returns-in-Err-clause-text
returns-in-Err-clause-text g c =
    let stands = reads_still g.S.Source.left _ _ _ _ _ _ _ _
    (c.take_held.ensures.none c.if-take_held.false)
    c.loop-number.invariant.stands in
    let read = c.in-Ok.ensures in
    let line = rw c.in-Whole.is at read.line in
    let took = rw (c.in-Ok-Some.field-0-is, c.bytes.ensures) at c.in-Ok-Some.ensures in
    let alone = ended_here _ _ _ _ _ _ _ _ _ _ _ c.line.new.self.line_bytes _ read.one read.short
    stands.1 c.in-Ok-Some.verdict line
    (short_step line_step tt c.take_held.new.reader _ _ read.short
    (takes_ends _ _ _ took)) in
    end_read _ _ _ _ _ _ _ _ _ _ alone _ c.in-Err.ensures.end

pub returns-in-Err-Refused-clause-text : goal.returns-in-Err-Refused-clause-text
returns-in-Err-Refused-clause-text g c =
    let stands = reads_still g.S.Source.left _ _ _ _ _ _ _ _
    (c.take_held.ensures.none c.if-take_held.false)
    c.loop-number.invariant.stands in
    let read = c.in-Ok.ensures in
    let line = rw c.in-Whole.is at read.line in
    let took = rw (c.in-Err-Refused.field-0-is, c.bytes.ensures) at c.in-Err-Refused.ensures in
    rw c.refused-in-Err-Refused.ensures
    (refused_here _ _ _ _ _ _ _ _ _ _ _ c.line.new.self.line_bytes _ read.one read.short
    stands.1 _ line
    (short_step line_step tt c.take_held.new.reader _ _ read.short
    (takes_refuses _ _ _ took)))

pub returns-in-Err-NoMemory-clause-text : goal.returns-in-Err-NoMemory-clause-text
returns-in-Err-NoMemory-clause-text g c =
    let stands = reads_still g.S.Source.left _ _ _ _ _ _ _ _
    (c.take_held.ensures.none c.if-take_held.false)
    c.loop-number.invariant.stands in
    let read = c.in-Ok.ensures in
    let line = rw c.in-Whole.is at read.line in
    halted_line _ _ _ _ _ _ _ _ _ _ _ c.line.new.self.line_bytes _ read.one read.short
    stands.1 line

pub loop-number-preserved : goal.loop-number-preserved
loop-number-preserved g c =
    let stands = reads_still g.S.Source.left _ _ _ _ _ _ _ _
    (c.take_held.ensures.none c.if-take_held.false)
    c.loop-number.invariant.stands in
    let read = c.in-Ok.ensures in
    let line = rw c.in-Whole.is at read.line in
    let took = rw (c.in-Ok-None.field-0-is, c.bytes.ensures) at c.in-Ok-None.ensures in
    record {
      same = read.same_reference ∙ ap (λ s. s.ghost_name) c.take_held.ensures.source
          ∙ c.loop-number.invariant.same;
      still = read.cause ∙ ap (λ s. g.S.Source.faults s.now) c.take_held.ensures.source
          ∙ c.loop-number.invariant.still;
      met = rw c.in-Whole.is at read.met
          ∙ ap (λ s. g.S.Source.met s.now) c.take_held.ensures.source
          ∙ c.loop-number.invariant.met;
      stands = goes_on _ _ _ _ _ _ _ _ _ _ _ c.line.new.self.line_bytes _ read.one read.short
          stands.1 _ line
          (short_step line_step tt c.take_held.new.reader _ _ read.short
          (takes_goes _ _ took));
    }

pub loop-number-preserved-then-take_held : goal.loop-number-preserved-then-take_held
loop-number-preserved-then-take_held g c =
    record {
      same = ap (λ s. s.ghost_name) c.take_held.ensures.source ∙ c.loop-number.invariant.same;
      still = ap (λ s. g.S.Source.faults s.now) c.take_held.ensures.source
          ∙ c.loop-number.invariant.still;
      met = ap (λ s. g.S.Source.met s.now) c.take_held.ensures.source
          ∙ c.loop-number.invariant.met;
      stands = reads_next g.S.Source.left _ _ _ c.loop-number.feed c.take_held.new.feed
          c.loop-number.reader c.take_held.new.reader c.loop-number.number
          (c.take_held.ensures.taken c.if-take_held.true) c.loop-number.invariant.stands;
    }
