use Rattle.std.proofs.Common.{◌≡◌, ℕ, ◌/◌, ◌≤◌, map, length, get_or, Some, subst, ⊎_elim, arith}
use Rattle.std.proofs.lemmas.Bool.{cases_lt}
use Rattle.counting.specs.Values.{count_of}
use Rattle.shared_board.proofs.Most.{most_is, none_is}
use Rattle.shared_board.proofs.asking.most_of.Goals as goal

-- more than half are this vote
pub returns-then-half-places_of : goal.returns-then-half-places_of
returns-then-half-places_of c =
    let votes = c.args.votes.now in
    let half : ℕ = length votes / 2 in
    most_is votes half (omega arith) (get_or votes c.loop-i.i 0)
    (omega (arith, c.places_of.ensures, c.if-half-places_of.true))

pub loop-i-preserved : goal.loop-i-preserved
loop-i-preserved c = λ k lt.
    let votes = c.args.votes.now in
    let few : count_of (map Some votes) (Some (get_or votes c.loop-i.i 0)) ≤ length votes / 2 =
    omega (arith, c.places_of.ensures, c.if-half-places_of.false) in
    ⊎_elim (λ earlier. c.loop-i.invariant k earlier)
    (λ le. let is : c.loop-i.i ≡ k = omega arith in
    subst (λ j. count_of (map Some votes) (Some (get_or votes j 0)) ≤ length votes / 2) is few)
    (cases_lt k c.loop-i.i)

-- none of the votes is
pub returns : goal.returns
returns c =
    none_is c.args.votes.now (length c.args.votes.now / 2) (omega arith)
    (λ k lt. c.loop-i.invariant k (omega (arith, c.loop-i.auto.i-end, c.loop-i-test.false)))
