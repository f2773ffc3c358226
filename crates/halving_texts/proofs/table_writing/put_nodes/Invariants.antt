use Rattle.std.specs.List.{flat_map, range_with_len}
use Rattle.edge_io.specs.Writing.{Writes}
use Rattle.halving_texts.specs.Tables.{node_line}
use Rattle.halving_texts.proofs.table_writing.put_nodes.Given as goal

abbrev pub invariant-loop-node : goal.invariant-loop-node
invariant-loop-node g l =
    Writes g.K.Sink.told (flat_map (node_line l.plan) (range_with_len 0 l.node)) l.fn.writer l.writer
