use Rattle.std.proofs.Common.{sym, ◌∙◌}
use Rattle.trace_pictures.proofs.Hearing.{heard_more, heard_so_far}
use Rattle.trace_pictures.proofs.turns_said.is_heard_from.Goals as goal

pub returns-then-note-reign : goal.returns-then-note-reign
returns-then-note-reign c = λ _.
    heard_so_far c.args.reign c.args.notes.now c.requires.rise c.loop-k.k c.index-notes-k.result
    c.loop-k-test.true c.index-notes-k.is c.if-note-reign.true c.loop-k.invariant

pub loop-k-preserved : goal.loop-k-preserved
loop-k-preserved c =
    heard_more c.args.reign c.args.notes.now c.requires.rise c.loop-k.k c.index-notes-k.result
    c.loop-k-test.true c.index-notes-k.is (sym c.hears_other.ensures ∙ c.if-hears_other.false)
    c.loop-k.invariant
