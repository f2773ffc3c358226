use Rattle.shared_board.proofs.Zeros.{zero_board, zero_view}
use Rattle.shared_board.proofs.board.Board.new.Goals as goal

pub invariant_of-result : goal.invariant_of-result
invariant_of-result c =
    zero_board c.args.nodes c.args.depth _ _ _ _ _ _
    c.in_ok-zero_outputs.ensures c.in_ok-zero_registers.ensures c.in_ok-with_capacity.ensures.items
    c.in_ok-zero_marks.ensures c.in_ok-zero_counts.ensures c.in_ok-with_capacity.ensures.capacity
    c.requires.nodes

pub returns : goal.returns
returns c =
    zero_view c.args.nodes c.args.depth _ _ _
    c.in_ok-zero_outputs.ensures c.in_ok-zero_registers.ensures c.in_ok-with_capacity.ensures.items
