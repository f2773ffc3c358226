use Rattle.std.proofs.Common.{vec_capacity, subst, sym, arith}
use Rattle.counting.specs.Unfinished.{LeastStays}
use Rattle.counting.specs.Values.{least_above}
use Rattle.majority_votes.specs.Votes.{Votes}
use Rattle.majority_votes.specs.Counts.{IsValidTally}
use Rattle.majority_votes.proofs.KeptCounts.{least_known, no_least_known}
use Rattle.majority_votes.proofs.tally.Tally.is_least_fixed.Goals as goal

-- the first number with more than f places is the least, and none before it can come above f
pub returns-then-count-f : goal.returns-then-count-f
returns-then-count-f c =
    let t = c.self.inside in
    let kept = subst
    (λ counts. IsValidTally t.capacity t.values.items counts t.infinities (vec_capacity t.values)
    (vec_capacity t.counts))
    (sym c.deref-count-items.ensures.value) c.self.invariant in
    let stays = least_known _ _ _ _ _ _ kept c.args.f c.args.more c.loop-count.count-index
    (omega arith) c.loop-count-test.true c.if-count-f.true c.loop-count.invariant in
    λ _. subst
    (λ (v : Votes). LeastStays c.args.f c.args.more v.values (least_above c.args.f v.values))
    c.self.view_is stays

-- none can come above f
pub returns : goal.returns
returns c =
    let t = c.self.inside in
    let kept = subst
    (λ counts. IsValidTally t.capacity t.values.items counts t.infinities (vec_capacity t.values)
    (vec_capacity t.counts))
    (sym c.deref-count-items.ensures.value) c.self.invariant in
    let stays = no_least_known _ _ _ _ _ _ kept c.args.f c.args.more (omega arith)
    (λ i lt. c.loop-count.invariant i (omega arith)) in
    λ _. subst
    (λ (v : Votes). LeastStays c.args.f c.args.more v.values (least_above c.args.f v.values))
    c.self.view_is stays
