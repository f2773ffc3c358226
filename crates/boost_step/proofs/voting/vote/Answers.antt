use Rattle.std.proofs.Common.{◌≡◌, ℕ, ◌+◌, ◌-◌, ◌*◌, ◌/◌, ◌%◌, ◌≤◌, ◌^◌, List, take, drop, map}
use Rattle.std.proofs.Common.{refl, ap, sym, ◌∙◌, arith}
use Rattle.std.proofs.Math.Nat.{mul-le-mul_right}
use Rattle.counting.specs.Values.{majority_or_zero}
use Rattle.construction.specs.Plans.{beat_of, leaders_of, interval_of}
use Rattle.construction.specs.Votes.{vote}
use Rattle.leader_pointers.proofs.Intervals.{interval_pos}
use Rattle.plan_numbers.specs.declared.numbers.LevelNums.{LevelNums}
use Rattle.plan_numbers.specs.Numbers.{level_of}
use Rattle.boost_step.specs.Numbers.{in_blocks, AreNumbers}
use Rattle.boost_step.proofs.Numbers.{related, interval_most}
use Rattle.boost_step.proofs.LevelVotes.{vote_of_slice}
use Rattle.boost_step.proofs.voting.vote.Goals as goal

-- the power is no more than the interval, which is no more than the span
power_most : (nums : LevelNums) → AreNumbers nums → (leaders i : ℕ) → leaders ≡ nums.leaders
    → i ≤ nums.blocks → (2 * leaders) ^ i ≤ 2 ^ 40
power_most nums are leaders i same le =
    let r = related nums are in
    let some : 1 ≤ nums.beat = omega (arith, r.sized.beat) in
    let grows : 1 * (2 * nums.leaders) ^ i ≤ nums.beat * (2 * nums.leaders) ^ i =
    mul-le-mul_right ((2 * nums.leaders) ^ i) some in
    let is : (2 * leaders) ^ i ≡ (2 * nums.leaders) ^ i = ap (λ m. (2 * m) ^ i) same in
    omega (arith, is, grows, interval_most nums r i le)

-- the product is the interval
interval_is : (nums : LevelNums) → (leaders i power : ℕ) → leaders ≡ nums.leaders
    → power ≡ (2 * leaders) ^ i → nums.beat * power ≡ interval_of nums.beat nums.leaders i
interval_is nums leaders i power same is =
    ap (λ p. nums.beat * p) (is ∙ ap (λ m. (2 * m) ^ i) same)

pub block_nodes-n-requires : goal.block_nodes-n-requires
block_nodes-n-requires c = (related c.args.nums.now c.requires.numbers).sized

pub pow-requires : goal.pow-requires
pow-requires c =
    omega (
      arith,
      power_most c.args.nums.now c.requires.numbers c.from-leaders.result c.args.i
          c.from-leaders.ensures (omega (arith, c.requires.block)),
    )

pub overflow_mul-interval : goal.overflow_mul-interval
overflow_mul-interval c =
    let nums = c.args.nums.now in
    let is = interval_is nums c.from-leaders.result c.args.i c.pow.result c.from-leaders.ensures
    c.pow.ensures in
    omega (
      arith,
      is,
      interval_most nums (related nums c.requires.numbers) c.args.i
          (omega (arith, c.requires.block)),
    )

pub new-requires : goal.new-requires
new-requires c =
    let nums = c.args.nums.now in
    let r = related nums c.requires.numbers in
    let is = interval_is nums c.from-leaders.result c.args.i c.pow.result c.from-leaders.ensures
    c.pow.ensures in
    omega (
      arith,
      is,
      interval_pos nums.beat nums.leaders c.args.i
          (omega (arith, r.sized.beat)) (omega (arith, r.sized.leaders)),
    )

pub returns-clause-vote : goal.returns-clause-vote
returns-clause-vote c =
    let nums = c.args.nums.now in
    let level = level_of nums in
    let n : ℕ = c.block_nodes-n.result in
    let e = c.block_nodes-n.ensures in
    let r = related nums c.requires.numbers in
    let i = c.args.i in
    let start : ℕ = i * n in
    let interval : ℕ = nums.beat * c.pow.result in
    let items = c.args.work.now.outputs.items in
    let is = interval_is nums c.from-leaders.result i c.pow.result c.from-leaders.ensures
    c.pow.ensures in
    let long : interval ≡ interval_of (beat_of level) (leaders_of level) i =
    is ∙ (ap (λ b. interval_of b nums.leaders i) r.beat
    ∙ ap (λ m. interval_of (beat_of level) m i) r.leaders) in
    vote_of_slice level n (in_blocks nums) i start c.new.result c.from-leaders.result
    c.block_vote.result items (ap (λ n. nums.blocks * n) (sym e)) c.requires.block refl
    (c.new.ensures ∙ long)
    (c.from-leaders.ensures ∙ r.leaders)
    (c.block_vote.ensures
    ∙ ap (λ (xs : List ℕ). majority_or_zero (map (λ o. o / c.new.result % c.from-leaders.result)
    (take (start + n - start) (drop start xs)))) c.deref.ensures.value)
    ∙ ap (λ n. vote level n (take (in_blocks nums) items) i) e
