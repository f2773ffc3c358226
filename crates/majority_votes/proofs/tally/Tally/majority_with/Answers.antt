use Rattle.std.proofs.Common.{Some, None, length, vec_capacity, subst, sym, ap, arith}
use Rattle.counting.specs.Unfinished.{MajorityStays}
use Rattle.majority_votes.specs.Votes.{Votes}
use Rattle.majority_votes.specs.Counts.{IsValidTally, value_at}
use Rattle.majority_votes.proofs.KeptCounts.{majority_known, no_majority_known}
use Rattle.majority_votes.proofs.tally.Tally.majority_with.Goals as goal

-- the number has more than half of all places already
pub returns-then-half-count : goal.returns-then-half-count
returns-then-half-count c =
    let t = c.self.inside in
    let kept = subst
    (λ counts. IsValidTally t.capacity t.values.items counts t.infinities (vec_capacity t.values)
    (vec_capacity t.counts))
    (sym c.deref-count-items.ensures.value) c.self.invariant in
    let stays = majority_known _ _ _ _ _ _ kept c.args.more c.loop-count.count-index (omega arith)
    (omega (arith, c.if-half-count.true, c.len.ensures, t.values.ok.0)) in
    subst
    (λ (v : Votes). MajorityStays c.args.more v.values
    (Some (value_at c.deref-count-items.result.now c.loop-count.count-index)))
    c.self.view_is stays

-- none can come to more than half
pub returns-then-most-more : goal.returns-then-most-more
returns-then-most-more c =
    let t = c.self.inside in
    let kept = subst
    (λ counts. IsValidTally t.capacity t.values.items counts t.infinities (vec_capacity t.values)
    (vec_capacity t.counts))
    (sym c.deref-count-items.ensures.value) c.self.invariant in
    let long = ap (λ (v : Votes). length v.values) c.self.view_is in
    let stays = no_majority_known _ _ _ _ _ _ kept c.args.more c.loop-count.most
    (λ i lt. c.loop-count.invariant.0 i (omega arith))
    (omega (arith, c.if-most-more.true, c.len.ensures, t.values.ok.0, long)) in
    subst (λ (v : Votes). MajorityStays c.args.more v.values None) c.self.view_is stays
