use Rattle.std.proofs.Common.{arith}
use Rattle.counting.proofs.Places.{shorter}
use Rattle.shared_board.specs.Senders.{is_liar}
use Rattle.shared_board.proofs.stretches.NodeRange.liars.Goals as goal

-- there are as many liars up to the end of a stretch as before it, or more
pub overflow_sub-result : goal.overflow_sub-result
overflow_sub-result c =
    omega (
      arith,
      c.liars_below.ensures,
      c.liars_below-2.ensures,
      shorter
          (is_liar c.args.self.now.senders.now) c.args.self.now.first c.end.result
          (omega (arith, c.end.ensures)),
    )
