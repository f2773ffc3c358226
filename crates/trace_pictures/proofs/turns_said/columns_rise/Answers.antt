use Rattle.std.proofs.Common.{◌≤◌, arith}
use Rattle.trace_pictures.proofs.Hearing.{most_more, rise_more}
use Rattle.trace_pictures.proofs.turns_said.columns_rise.Goals as goal

pub loop-k-preserved : goal.loop-k-preserved
loop-k-preserved c =
    let notes = c.args.notes.now in
    let note = c.index-notes-k.result in
    let up : c.loop-k.last ≤ note.column = omega (arith, c.if-note-last.false) in
    record {
      most = most_more notes c.loop-k.k c.loop-k-test.true note c.index-notes-k.is c.loop-k.last up
          c.loop-k.invariant.most;
      rise = rise_more notes c.loop-k.k c.loop-k-test.true note c.index-notes-k.is c.loop-k.last up
          c.loop-k.invariant.most c.loop-k.invariant.rise;
    }
