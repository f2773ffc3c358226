use Rattle.std.proofs.Common.{arith}
use Rattle.shared_board.proofs.Heard.{correct_count}
use Rattle.shared_board.proofs.stretches.NodeRange.correct.Goals as goal

-- no more are liars than there are
pub overflow_sub-result : goal.overflow_sub-result
overflow_sub-result c =
    let at = c.args.self.now in
    omega (
      arith,
      c.liars.ensures,
      correct_count at.senders.now at.first at.count at.within,
    )

pub returns : goal.returns
returns c =
    let at = c.args.self.now in
    omega (
      arith,
      c.liars.ensures,
      correct_count at.senders.now at.first at.count at.within,
    )
