use Rattle.std.proofs.Common.{ℕ, map, take, Option, Some, arith}
use Rattle.std.proofs.lemmas.List.{length-map, length-take}
use Rattle.counting.proofs.Counts.{count_of-le}
use Rattle.sync_types.specs.States.{State}
use Rattle.construction.specs.Shown.{shown}
use Rattle.shared_board.proofs.laying.Lies.count_number.Goals as goal

-- a number is read of no more lies than there are
pub overflow_add-count : goal.overflow_add-count
overflow_add-count g c =
    let number : State → Option ℕ = λ s. Some (g.R.Reading.reads c.args.reading.now
    (shown c.args.self.now.height s)) in
    let front = take c.loop-lie.lie-index c.args.self.now.lies.now in
    omega (
      arith,
      c.loop-lie.invariant,
      c.loop-lie-test.true,
      count_of-le (map number front) (Some c.args.number),
      length-map front number,
      length-take c.loop-lie.lie-index c.args.self.now.lies.now,
    )

pub returns-clause-most : goal.returns-clause-most
returns-clause-most g c =
    let number : State → Option ℕ = λ s. Some (g.R.Reading.reads c.args.reading.now
    (shown c.args.self.now.height s)) in
    let front = take c.loop-lie.lie-index c.args.self.now.lies.now in
    omega (
      arith,
      c.loop-lie.invariant,
      count_of-le (map number front) (Some c.args.number),
      length-map front number,
      length-take c.loop-lie.lie-index c.args.self.now.lies.now,
    )
