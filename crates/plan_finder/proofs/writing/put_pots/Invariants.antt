use Rattle.std.proofs.Common.{take}
use Rattle.std.specs.List.{flat_map}
use Rattle.edge_io.specs.Writing.{Writes}
use Rattle.plan_finder.specs.FindText.{pot_line}
use Rattle.plan_finder.proofs.writing.put_pots.Given as goal

abbrev pub invariant-loop-i : goal.invariant-loop-i
invariant-loop-i g l =
    Writes g.K.Sink.told (flat_map pot_line (take l.i l.pots)) l.fn.writer l.writer
