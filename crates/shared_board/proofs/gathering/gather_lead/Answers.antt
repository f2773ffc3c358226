use Rattle.std.proofs.Common.{[], ◌≡◌, ◌≢◌, ℕ, ◌+◌, ◌*◌, ◌<◌, ◌≤◌, ◌∙◌, Bool, not, None, length}
use Rattle.std.proofs.Common.{get_or}
use Rattle.std.proofs.Common.{set, ap, sym, subst, ⊎_elim, arith}
use Rattle.std.proofs.lemmas.Bool.{cases_lt}
use Rattle.std.proofs.lemmas.List.{length-set, get_or-set_other}
use Rattle.std.proofs.lemmas.Grind.{get_or-set_at}
use Rattle.std.proofs.lemmas.List.Elements.{All-set}
use Rattle.majority_votes.specs.Votes.{Votes}
use Rattle.shared_board.specs.Senders.{is_liar, correct_in}
use Rattle.shared_board.specs.Votes.{AreVotes}
use Rattle.shared_board.proofs.Passing.{blocks_more}
use Rattle.shared_board.proofs.Votes.{vote_at, vote_by}
use Rattle.shared_board.proofs.Known.{lead_is_known, known_lead_below}
use Rattle.shared_board.proofs.gathering.gather_lead.Goals as goal

none : Votes
none = record { values = []; capacity = 0 }

pub returns-clause-blocks : goal.returns-clause-blocks
returns-clause-blocks g c =
    let at = c.args.site.now in
    let votes : AreVotes at.senders.now at.intervals.now at.leaders at.first at.size
    c.loop-i.votes c.loop-i.pointers = λ j none lt. c.loop-i.invariant.0 j none
    (omega (arith, lt, c.loop-i-test.false, c.loop-i.auto.i-end)) in
    record {
      known = lead_is_known at.senders.now at.intervals.now at.leaders at.first at.size
          c.loop-i.votes c.loop-i.pointers none
          c.loop-i.invariant.1.0 votes c.known_lead.result
          c.known_lead.ensures;
      counted = votes;
      room = c.loop-i.invariant.1;
    }

-- a known lead is a leader
pub returns-clause-below : goal.returns-clause-below
returns-clause-below g c =
    let at = c.args.site.now in
    let votes : AreVotes at.senders.now at.intervals.now at.leaders at.first at.size
    c.loop-i.votes c.loop-i.pointers = λ j none lt. c.loop-i.invariant.0 j none
    (omega (arith, lt, c.loop-i-test.false, c.loop-i.auto.i-end)) in
    known_lead_below at.senders.now at.intervals.now at.leaders at.first at.size
    c.loop-i.votes c.loop-i.pointers none
    c.loop-i.invariant.1.0 votes
    (omega (arith, at.some_leaders)) c.known_lead.result c.known_lead.ensures

-- the next block
pub loop-i-preserved : goal.loop-i-preserved
loop-i-preserved g c =
    let i = c.loop-i.invariant in
    let at = c.args.site.now in
    let s = at.senders.now in
    let n : ℕ = at.size in
    let b = c.loop-i.i in
    let pointers = c.loop-i.pointers in
    let votes = c.loop-i.votes in
    let new = c.gather_most.new.poll in
    let vote = c.gather_most.result in
    let q : ℕ → Bool = λ u. not (is_liar s u) in
    let in_range : b < length pointers =
    omega (arith, i.1.1.0, c.loop-i-test.true, c.loop-i.auto.i-end) in
    let in_votes : b < length votes =
    omega (arith, i.1.0, c.loop-i-test.true, c.loop-i.auto.i-end) in
    let room : n ≤ c.index-pointers-i.result.capacity =
    subst (λ (v : Votes). n ≤ v.capacity) (sym c.index-pointers-i.is)
    (i.1.1.1 b c.index-pointers-i.result in_range) in
    let took = ap (λ a. length (correct_in s a n)) c.start.ensures in (
      λ j none lt. ⊎_elim
          (λ earlier. let ne : j ≢ b = λ (same : j ≡ b). omega arith in
          vote_by s (get_or at.intervals.now j 0) at.leaders (at.first + j * n) n
          (get_or votes j None) (get_or (set votes b vote) j None) (get_or pointers j none)
          (get_or (set pointers b new) j none)
          (get_or-set_other votes b j vote None ne) (get_or-set_other pointers b j new none ne)
          (i.0 j none earlier))
          (λ le. let is : j ≡ b = omega arith in
          vote_by s (get_or at.intervals.now j 0) at.leaders (at.first + j * n) n
          vote (get_or (set votes b vote) j None) new (get_or (set pointers b new) j none)
          (get_or-set_at votes b j vote None is in_votes)
          (get_or-set_at pointers b j new none is in_range)
          (vote_at s _ (get_or at.intervals.now j 0) at.leaders _ (at.first + j * n) n vote new
          (ap (λ k. get_or at.intervals.now k 0) (sym is))
          (c.start.ensures ∙ ap (λ k. at.first + k * n) (sym is)) c.gather_most.ensures.most))
          (cases_lt j b),
      (
        length-set votes b vote ∙ i.1.0,
        (
          length-set pointers b new ∙ i.1.1.0,
          All-set (λ (v : Votes). n ≤ v.capacity) pointers b new
              (omega (arith, c.gather_most.ensures.room, room)) i.1.1.1,
        ),
      ),
      omega (arith, c.gather_most.ensures.steps, i.2, took, blocks_more q at.first b n),
    )
