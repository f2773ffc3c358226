use Rattle.std.proofs.Common.{◌≡◌, ℕ, ◌+◌, ◌*◌, ◌∙◌, map, get_or, ap, sym, ⊎_elim}
use Rattle.std.proofs.Common.{arith}
use Rattle.std.specs.List.{range_with_len}
use Rattle.std.proofs.lemmas.Bool.{cases_lt}
use Rattle.std.proofs.lemmas.List.{get_or-set_other}
use Rattle.std.proofs.lemmas.Grind.{get_or-set_at}
use Rattle.std.proofs.lemmas.List.FromFn.{fill_by_all}
use Rattle.shared_board.specs.Senders.{liars_in}
use Rattle.shared_board.specs.Votes.{block_vote}
use Rattle.shared_board.proofs.Heard.{liars_more}
use Rattle.shared_board.proofs.asking.Asking.hear_votes.Goals as goal

-- the next block, and its liars
pub loop-i-preserved : goal.loop-i-preserved
loop-i-preserved g c =
    let i = c.loop-i.invariant in
    let at = c.args.self.now.site.now in
    let s = at.senders.now in
    let lies = c.args.self.now.hearing.now.lies.now in
    let same = sym c.args.self.now.same in
    let heard = c.loop-i.heard in
    let b = c.loop-i.i in
    let vote = c.most.result in
    let f : ℕ → ℕ = λ i. block_vote s lies (get_or at.intervals.now i 0) at.leaders
    (at.first + i * at.size) at.size in
    let took = ap (λ s. liars_in s c.start.result at.size) same
    ∙ ap (λ a. liars_in s a at.size) c.start.ensures in
    let is_vote : vote ≡ f b =
    c.most.ensures.most
    ∙ (ap (λ s. block_vote s lies (get_or at.intervals.now b 0) at.leaders c.start.result
    at.size) same
    ∙ ap (λ a. block_vote s lies (get_or at.intervals.now b 0) at.leaders a at.size)
    c.start.ensures) in (
      λ j lt. ⊎_elim
          (λ earlier. get_or-set_other heard b j vote 0 (λ (same : j ≡ b). omega arith)
          ∙ i.0 j earlier)
          (λ late. let is : j ≡ b = omega arith in
          get_or-set_at heard b j vote 0 is (omega (
            arith,
            c.loop-i-test.true,
            c.loop-i.auto.heard,
            c.loop-i.auto.i-end,
          )) ∙ (is_vote ∙ ap f (sym is))) (cases_lt j b),
      omega (arith, c.most.ensures.steps, i.1, took, liars_more s at.first b at.size),
    )

pub returns-clause-votes : goal.returns-clause-votes
returns-clause-votes g c =
    let at = c.args.self.now.site.now in
    let f : ℕ → ℕ = λ i. block_vote at.senders.now c.args.self.now.hearing.now.lies.now
    (get_or at.intervals.now i 0) at.leaders (at.first + i * at.size) at.size in
    fill_by_all f _ _ 0 c.loop-i.auto.heard (λ k lt. c.loop-i.invariant.0 k (omega arith))
    ∙ ap (λ n. map f (range_with_len 0 n)) c.requires
