use Rattle.std.proofs.Common.{ℕ, List, Option, get_or, None, ◌∙◌, ap, arith}
use Rattle.counting.specs.Values.{count_of}
use Rattle.shared_board.proofs.Leads.{lead_is, lead_none, few_some, few_none, few_next}
use Rattle.shared_board.proofs.gathering.known_lead.Goals as goal
use Rattle.shared_board.proofs.gathering.known_lead.Goals.{in-Some+else-half-places, in_default}

-- more than half are known to be this vote
pub returns-then-half-places : goal.returns-then-half-places
returns-then-half-places c =
    let same = c.places_of-places.ensures ∙ ap (count_of c.args.votes.now) c.in-Some.is in
    lead_is c.args.votes.now c.in-Some.vote (omega (arith, c.if-half-places.true, same))

-- the next vote
pub loop-i-preserved : goal.loop-i-preserved
loop-i-preserved c =
    let votes : List (Option ℕ) = c.args.votes.now in
    let i = c.loop-i.invariant in
    elim c.match-votes-i.branch [
      | in-Some+else-half-places w ↦ (
        few_next votes c.loop-i.most c.match-votes-i.most c.loop-i.i
            (omega (arith, w.most-is, w.greater-most.ensures)) i.0
            (few_some votes c.match-votes-i.most w.in-Some.vote (get_or votes c.loop-i.i None)
            w.in-Some.is
            (omega (arith, w.most-is, w.greater-most.ensures, w.places_of-places.ensures))),
        omega (arith, w.most-is, w.greater-most.ensures, w.if-half-places.false, i.1),
      )
      | in_default w ↦ (
        few_next votes c.loop-i.most c.match-votes-i.most c.loop-i.i
            (omega (arith, w.most-is)) i.0
            (few_none votes c.match-votes-i.most (get_or votes c.loop-i.i None) w.in_default.is),
        omega (arith, w.most-is, i.1),
      )
    ]

-- none can come to more than half
pub returns-then-most-open : goal.returns-then-most-open
returns-then-most-open c =
    lead_none c.args.votes.now c.loop-i.most
    (λ k lt. c.loop-i.invariant.0 k (omega (arith, c.loop-i.auto.i-end, c.loop-i-test.false)))
    (omega (arith, c.if-most-open.true, c.places_of-open.ensures))
