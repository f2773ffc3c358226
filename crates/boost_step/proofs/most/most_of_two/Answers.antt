use Rattle.std.proofs.Common.{ℕ, map, arith}
use Rattle.std.proofs.lemmas.List.{length-map}
use Rattle.boost_step.proofs.Leads.{is_most, zero_is_most}
use Rattle.boost_step.proofs.most.most_of_two.Goals as goal

pub returns-then-numbers-times : goal.returns-then-numbers-times
returns-then-numbers-times g c =
    let read : ℕ → ℕ = g.R.Reading.read c.args.reading.now in
    let long = length-map c.args.numbers.now read in
    is_most (map read c.args.numbers.now) 1
    (omega (arith, long, c.times.ensures, c.if-numbers-times.true))

pub returns-else-numbers-times : goal.returns-else-numbers-times
returns-else-numbers-times g c =
    let read : ℕ → ℕ = g.R.Reading.read c.args.reading.now in
    zero_is_most read c.args.numbers.now c.requires
    (omega (arith, c.times.ensures, c.if-numbers-times.false))
