use Rattle.std.proofs.Common.{arith}
use Rattle.tower.proofs.Indices.{most_nodes}
use Rattle.tower.proofs.rows.rows_of.Goals as goal

pub row_of-requires-clause-node : goal.row_of-requires-clause-node
row_of-requires-clause-node c =
    omega (
      arith,
      c.nodes_over-nodes.ensures,
      most_nodes c.args.levels.now c.requires,
      c.loop-node-test.true,
    )
