use Rattle.std.proofs.Common.{take}
use Rattle.std.specs.List.{flat_map}
use Rattle.edge_io.specs.Writing.{Writes}
use Rattle.trace_pictures.specs.Traces.{vote_word}
use Rattle.trace_pictures.proofs.trace_printing.put_votes.Given as goal

abbrev pub invariant-loop-i : goal.invariant-loop-i
invariant-loop-i g l =
    Writes g.K.Sink.told (flat_map vote_word (take l.i l.votes)) l.fn.writer l.writer
