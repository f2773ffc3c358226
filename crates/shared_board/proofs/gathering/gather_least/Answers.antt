use Rattle.std.proofs.Common.{ap, sym, ◌∙◌, subst, ℕ}
use Rattle.counting.specs.Values.{least_above}
use Rattle.counting.specs.Unfinished.{LeastStays}
use Rattle.majority_votes.specs.Votes.{Votes}
use Rattle.shared_board.specs.Senders.{liars_in, values_of}
use Rattle.shared_board.proofs.Heard.{least_stays_heard}
use Rattle.shared_board.proofs.gathering.gather_least.Goals as goal

-- a least value that stays is the one heard
pub returns-then-is_least_fixed-clause-least : goal.returns-then-is_least_fixed-clause-least
returns-then-is_least_fixed-clause-least g c =
    let s = c.args.group.now.senders.now in
    let values = ap (λ (v : Votes). v.values) c.gather_values.ensures.poll in
    let n : ℕ = c.args.faults in
    let stays : LeastStays n (liars_in s c.args.group.now.first c.args.group.now.count)
    (values_of s c.args.group.now.first c.args.group.now.count)
    (least_above n (values_of s c.args.group.now.first c.args.group.now.count)) =
    subst (λ more. LeastStays n more (values_of s c.args.group.now.first c.args.group.now.count)
    (least_above n (values_of s c.args.group.now.first c.args.group.now.count))) c.liars.ensures
    (subst (λ vs. LeastStays n c.liars.result vs (least_above n vs)) values
    (c.is_least_fixed.ensures c.if-is_least_fixed.true)) in
    λ lies told. rw c.least_above.ensures
    (least_stays_heard s lies told c.args.group.now.first c.args.group.now.count
    c.args.group.now.within n
    (least_above n (values_of s c.args.group.now.first c.args.group.now.count)) stays
    ∙ ap (least_above n) (sym values))
