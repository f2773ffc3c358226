use Rattle.edge_io.proofs.Writing.{writes_none, writes_at}
use Rattle.trace_pictures.specs.Traces.{vote_word}
use Rattle.trace_pictures.proofs.trace_printing.put_votes.Goals as goal

pub loop-i-init : goal.loop-i-init
loop-i-init g c = writes_none

pub loop-i-preserved : goal.loop-i-preserved
loop-i-preserved g c =
    writes_at vote_word c.args.votes.now c.loop-i.i _ c.loop-i-test.true
    c.loop-i.invariant c.pieces.ensures
