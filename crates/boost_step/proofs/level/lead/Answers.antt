use Rattle.std.proofs.Common.{◌≡◌, ℕ, ◌+◌, ◌/◌, ◌<◌, length, ◌-◌, ◌%◌, List, All, map, take, drop}
use Rattle.std.proofs.Common.{ap, sym, ◌∙◌, subst, arith, refl}
use Rattle.std.specs.List.{range_with_len}
use Rattle.std.proofs.lemmas.List.{length-set, map-id}
use Rattle.counting.specs.Values.{majority_or_zero}
use Rattle.construction.specs.Plans.{leaders_of, beat_of, interval_of}
use Rattle.construction.specs.Votes.{vote, lead}
use Rattle.plan_numbers.specs.declared.numbers.LevelNums.{LevelNums}
use Rattle.plan_numbers.specs.Numbers.{level_of}
use Rattle.boost_step.specs.Numbers.{block_nodes, in_blocks}
use Rattle.boost_step.proofs.Numbers.{Related, related, interval_most}
use Rattle.boost_step.proofs.LevelVotes.{lead_below, votes_below, votes_counted, vote_of_slice}
use Rattle.boost_step.proofs.LevelVotes.{interval_more}
use Rattle.boost_step.proofs.Stepping.{output_more}
use Rattle.boost_step.proofs.level.lead.Goals as goal

pub new-interval-requires : goal.new-interval-requires
new-interval-requires c =
    let beat = (related c.args.nums.now c.requires.numbers).sized.beat in
    omega arith

pub next_interval-next-requires-clause-some : goal.next_interval-next-requires-clause-some
next_interval-next-requires-clause-some c =
    let leaders = (related c.args.nums.now c.requires.numbers).sized.leaders in
    let is = c.from-leaders.ensures in
    omega arith

pub index_mut-requires : goal.index_mut-requires
index_mut-requires c =
    let most = (related c.args.nums.now c.requires.numbers).sized.most_blocks in
    let test = c.loop-i-test.true in
    let room = c.requires.work.votes in
    let kept = c.loop-i.invariant.room in
    omega arith

pub next_interval-next-requires-clause-small : goal.next_interval-next-requires-clause-small
next_interval-next-requires-clause-small c =
    let nums = c.args.nums.now in
    let test = c.loop-i-test.true in
    let next = interval_more nums.beat nums.leaders c.loop-i.i c.loop-i.interval
    c.from-leaders.result c.loop-i.invariant.interval c.from-leaders.ensures in
    let most = interval_most nums (related nums c.requires.numbers) (c.loop-i.i + 1)
    (omega arith) in
    omega (arith, next, most)

pub loop-i-preserved : goal.loop-i-preserved
loop-i-preserved c =
    let nums = c.args.nums.now in
    let level = level_of nums in
    let n : ℕ = block_nodes nums in
    let r = related nums c.requires.numbers in
    let i = c.loop-i.invariant in
    let test = c.loop-i-test.true in
    let items = c.loop-i.work.outputs.items in
    let long : c.loop-i.interval ≡ interval_of (beat_of level) (leaders_of level) c.loop-i.i =
    i.interval ∙ (ap (λ b. interval_of b nums.leaders c.loop-i.i) r.beat
    ∙ ap (λ m. interval_of (beat_of level) m c.loop-i.i) r.leaders) in
    let most = r.sized.most_blocks in
    let votes = c.requires.work.votes in
    let kept = i.room in
    let inside : c.loop-i.i < length c.loop-i.work.votes.items = omega arith in
    record {
      interval = c.next_interval-next.ensures
          ∙ interval_more nums.beat nums.leaders c.loop-i.i c.loop-i.interval
          c.from-leaders.result i.interval c.from-leaders.ensures;
      start = let begins = i.start in omega arith;
      votes = output_more (vote level n (take (in_blocks nums) items)) c.loop-i.i
          c.block_vote-vote.result c.loop-i.work.votes.items inside i.votes
          (vote_of_slice level n
          (in_blocks nums) c.loop-i.i c.loop-i.start c.loop-i.interval c.from-leaders.result
          c.block_vote-vote.result items refl test i.start long
          (c.from-leaders.ensures ∙ r.leaders)
          (c.block_vote-vote.ensures
          ∙ ap (λ xs. majority_or_zero
          (map (λ o. o / c.loop-i.interval % c.from-leaders.result)
          (take (c.loop-i.start + n - c.loop-i.start) (drop c.loop-i.start xs))))
          c.deref.ensures.value));
      room = length-set c.loop-i.work.votes.items c.loop-i.i c.block_vote-vote.result ∙ i.room;
      values = i.values;
      outputs = i.outputs;
    }

lead_below_leaders : (nums : LevelNums) → Related nums → (outputs : List ℕ) (l : ℕ)
    → l ≡ lead (level_of nums) (block_nodes nums) outputs → l < nums.leaders
lead_below_leaders nums r outputs l e =
    let leaders = r.sized.leaders in
    let same = r.leaders in
    let below = lead_below (level_of nums) (block_nodes nums) outputs (omega arith) in
    omega arith

pub most_below-requires : goal.most_below-requires
most_below-requires c =
    let nums = c.args.nums.now in
    let r = related nums c.requires.numbers in
    let leaders = r.sized.leaders in
    let same : leaders_of (level_of nums) ≡ c.from-leaders.result =
    sym (c.from-leaders.ensures ∙ r.leaders) in
    let all : c.loop-i.i ≡ nums.blocks =
    omega (arith, c.loop-i-test.false, c.loop-i.auto.i-end) in
    subst (λ (votes : List ℕ). All (λ v. v < c.from-leaders.result) votes)
    (sym (votes_counted (level_of nums) (block_nodes nums) (in_blocks nums) nums.blocks c.loop-i.i
    c.deref-2.result.now c.loop-i.work.votes.items c.loop-i.work.outputs.items
    c.args.work.now.outputs.items all c.deref-2.ensures.value c.loop-i.invariant.votes
    (ap (λ o. o.items) c.loop-i.invariant.outputs)))
    (subst (λ (m : ℕ). All (λ v. v < m) (map (vote (level_of nums) (block_nodes nums)
    (take (in_blocks nums) c.args.work.now.outputs.items)) (range_with_len 0 nums.blocks))) same
    (votes_below (level_of nums) (block_nodes nums) nums.blocks
    (take (in_blocks nums) c.args.work.now.outputs.items)
    (let many = r.leaders in omega arith)))

pub returns-clause-lead : goal.returns-clause-lead
returns-clause-lead c =
    let nums = c.args.nums.now in
    let all : c.loop-i.i ≡ nums.blocks =
    omega (arith, c.loop-i-test.false, c.loop-i.auto.i-end) in
    c.most_below.ensures ∙ ap majority_or_zero (map-id _
    ∙ votes_counted (level_of nums) (block_nodes nums) (in_blocks nums) nums.blocks c.loop-i.i
    c.deref-2.result.now c.loop-i.work.votes.items c.loop-i.work.outputs.items
    c.args.work.now.outputs.items all c.deref-2.ensures.value c.loop-i.invariant.votes
    (ap (λ o. o.items) c.loop-i.invariant.outputs))

pub returns-clause-below : goal.returns-clause-below
returns-clause-below c =
    lead_below_leaders c.args.nums.now (related c.args.nums.now c.requires.numbers)
    (take (in_blocks c.args.nums.now) c.args.work.now.outputs.items) c.most_below.result
    (returns-clause-lead c)

pub overflow_cast-result : goal.overflow_cast-result
overflow_cast-result c =
    let leaders = (related c.args.nums.now c.requires.numbers).sized.most_leaders in
    omega (arith, returns-clause-below c)
