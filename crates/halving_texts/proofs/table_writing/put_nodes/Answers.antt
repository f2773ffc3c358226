use Rattle.std.proofs.Common.{◌≡◌, ℕ, ◌+◌, ap, arith}
use Rattle.std.specs.List.{flat_map, range_with_len}
use Rattle.edge_io.proofs.Writing.{writes_next, writes_is, writes_none}
use Rattle.halving_texts.specs.Tables.{node_line}
use Rattle.halving_texts.proofs.table_writing.put_nodes.Goals as goal

pub loop-node-init : goal.loop-node-init
loop-node-init g c = writes_none

pub loop-node-preserved : goal.loop-node-preserved
loop-node-preserved g c =
    writes_next (node_line c.args.plan.now) 0 c.loop-node.node c.loop-node.node
    c.loop-node.invariant c.put_node.ensures (omega arith)

pub returns : goal.returns
returns g c =
    let all : c.loop-node.node ≡ c.args.plan.now.nodes = omega arith in
    writes_is (ap (λ (n : ℕ). flat_map (node_line c.args.plan.now) (range_with_len 0 n)) all)
    c.loop-node.invariant
