use Rattle.std.proofs.Common.{take, arith}
use Rattle.std.proofs.lemmas.List.{length-take}
use Rattle.counting.proofs.Counts.{count_of-le}
use Rattle.shared_board.proofs.gathering.places_of.Goals as goal

-- a vote is at no more places than there are
pub overflow_add-places : goal.overflow_add-places
overflow_add-places c =
    let front = take c.loop-other.other-index c.args.votes.now in
    omega (
      arith,
      c.loop-other.invariant,
      c.loop-other-test.true,
      count_of-le front c.args.vote,
      length-take c.loop-other.other-index c.args.votes.now,
    )
