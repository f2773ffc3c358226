use Rattle.std.proofs.Common.{map, take, Option, ℕ, arith}
use Rattle.std.proofs.lemmas.List.{length-map, length-take}
use Rattle.counting.proofs.Counts.{count_of-le}
use Rattle.sync_types.specs.States.{State, register_at}
use Rattle.shared_board.proofs.laying.Lies.count.Goals as goal

-- a value is held by no more places than there are
pub overflow_add-count : goal.overflow_add-count
overflow_add-count g c =
    let value : State → Option ℕ = λ s. (register_at c.args.self.now.height s).a in
    let front = take c.loop-lie.lie-index c.args.self.now.lies.now in
    omega (
      arith,
      c.loop-lie.invariant.0,
      c.loop-lie-test.true,
      c.requires,
      c.capacity-room.ensures,
      count_of-le c.args.poll.now.values c.args.value,
      count_of-le (map value front) c.args.value,
      length-map front value,
      length-take c.loop-lie.lie-index c.args.self.now.lies.now,
    )
