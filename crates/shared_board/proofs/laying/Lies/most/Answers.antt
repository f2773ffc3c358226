use Rattle.std.proofs.Common.{ℕ, ◌/◌, ◌+◌, ◌∙◌, Option, Some, map, length, sym, arith}
use Rattle.std.proofs.lemmas.List.{length-map}
use Rattle.sync_types.specs.States.{State}
use Rattle.construction.specs.Shown.{shown}
use Rattle.shared_board.proofs.Told.{found_before}
use Rattle.shared_board.proofs.laying.Lies.most.Goals as goal

-- it has more than half without the lies
pub returns-in-Some-clause-most : goal.returns-in-Some-clause-most
returns-in-Some-clause-most g c =
    let read : State → Option ℕ = λ s. Some (g.R.Reading.reads c.args.reading.now
    (shown c.args.self.now.height s)) in
    let lies = c.args.self.now.lies.now in
    found_before c.args.poll.now.values (map read lies)
    ((c.len.result + length lies) / 2)
    (omega (arith, c.len.ensures.exact, length-map lies read)) c.in-Some.most
    (sym c.least_above.ensures ∙ c.in-Some.is)
