use Rattle.std.proofs.Common.{◌≡◌, ℕ, List, ◌+◌, ◌*◌, ◌/◌, ◌%◌, ◌<◌, ◌≤◌, length, ap, ◌∙◌}
use Rattle.std.proofs.Common.{subst, refl, sym, arith}
use Rattle.std.proofs.Math.Nat.{div-lt_iff_lt-mul}
use Rattle.std.proofs.lemmas.Nat.{mul-le}
use Rattle.construction.specs.Plans.{group_size}
use Rattle.plan_numbers.specs.declared.numbers.LevelNums.{LevelNums}
use Rattle.plan_numbers.specs.Numbers.{level_of}
use Rattle.boost_step.specs.Groups.{counter_below}
use Rattle.boost_step.specs.Numbers.{AreNumbersOver}
use Rattle.plan_laws.proofs.BoostLaws.{inner_is_next}
use Rattle.boost_step.proofs.Numbers.{related, block_nodes_below}
use Rattle.std.proofs.lemmas.List.Elements.{All-same}
use Rattle.sync_types.specs.States.{State}
use Rattle.construction.specs.Votes.{block}
use Rattle.counter_core.specs.Meanings.{Meaning, written}
use Rattle.construction.proofs.Blocks.{All-block}
use Rattle.boost_step.proofs.Stepping.{OwnBlock, own_block}
use Rattle.boost_step.proofs.nodes.Node.step_below.Goals as goal

-- a block of so many nodes ends with the blocks
blocks_within : (nodes place blocks : ℕ) → 1 ≤ nodes → place < blocks * nodes
    → (place / nodes + 1) * nodes ≤ blocks * nodes
blocks_within nodes place blocks some lt =
    let positive : 0 < nodes = omega arith in
    let before : place / nodes < blocks = (div-lt_iff_lt-mul positive).1 lt in
    mul-le (place / nodes + 1) nodes blocks nodes (omega arith) (omega arith)

-- the node's block is heard whole
own_heard : (nums : LevelNums) (m : Meaning) (place n i : ℕ) (heard own : List State)
    → AreNumbersOver (counter_below m) nums → length heard ≡ nums.nodes → n ≡ m.nodes
    → i ≡ place / n → place < nums.blocks * n → own ≡ block n i heard
    → OwnBlock m.nodes place n i heard own
own_heard nums m place n i heard own numbers size e is lt e' =
    let r = related nums (counter_below m, numbers) in
    let block = block_nodes_below (counter_below m) nums numbers in
    let whole : nums.nodes ≡ group_size (level_of nums) m.nodes =
    r.nodes ∙ ap (group_size (level_of nums)) block in
    let within = blocks_within m.nodes place nums.blocks (omega (arith, r.some, block))
    (subst (λ k. place < nums.blocks * k) e lt) in
    own_block m.nodes place n i heard own (omega (arith, within, whole, size)) e is e'

pub block-block-requires : goal.block-block-requires
block-block-requires g c =
    let at = c.args.self.now in
    (own_heard at.nums.now (g.A.Counter.meaning at.inner.now) at.place c.nodes-n.result
    c.block_of.result at.heard.now (block c.nodes-n.result c.block_of.result at.heard.now)
    at.numbers at.size c.nodes-n.ensures c.block_of.ensures c.if-self-n.true refl).fits

pub advance-requires-clause-heard : goal.advance-requires-clause-heard
advance-requires-clause-heard g c =
    let at = c.args.self.now in
    (own_heard at.nums.now (g.A.Counter.meaning at.inner.now) at.place c.nodes-n.result
    c.block_of.result at.heard.now c.block-block.result at.numbers at.size c.nodes-n.ensures
    c.block_of.ensures c.if-self-n.true c.block-block.ensures).size

pub advance-requires-clause-range : goal.advance-requires-clause-range
advance-requires-clause-range g c =
    let at = c.args.self.now in
    let in_range = g.A.Counter.in_range at.inner.now in
    All-same in_range c.block-block.result
    (block c.nodes-n.result c.block_of.result at.heard.now) c.block-block.ensures
    (All-block in_range c.nodes-n.result c.block_of.result at.heard.now c.requires.range)

pub advance-requires-clause-deep : goal.advance-requires-clause-deep
advance-requires-clause-deep g c =
    let at = c.args.self.now in
    let deep : State → Type 0 =
    λ s. (g.A.Counter.meaning at.inner.now).depth ≤ length s.registers in
    All-same deep c.block-block.result
    (block c.nodes-n.result c.block_of.result at.heard.now) c.block-block.ensures
    (All-block deep c.nodes-n.result c.block_of.result at.heard.now
    (λ k s lt. omega (arith, at.deep k s lt)))

pub returns-then-self-n-clause-out : goal.returns-then-self-n-clause-out
returns-then-self-n-clause-out g c =
    let at = c.args.self.now in
    let nums = at.nums.now in
    let m = g.A.Counter.meaning at.inner.now in
    let v = at.place in
    let heard = at.heard.now in
    let own = own_heard nums m v c.nodes-n.result c.block_of.result heard c.block-block.result
    at.numbers at.size c.nodes-n.ensures c.block_of.ensures c.if-self-n.true
    c.block-block.ensures in
    c.advance.ensures.out
    ∙ ap (λ s. written m.depth s c.args.out.now)
    (ap (λ p. m.next p c.block-block.result)
    (c.place_in.ensures ∙ ap (λ n. v % n) c.nodes-n.ensures)
    ∙ (ap (m.next (v % m.nodes)) own.block
    ∙ sym (inner_is_next m (level_of nums) v heard
    (subst (λ k. v < nums.blocks * k) c.nodes-n.ensures c.if-self-n.true))))
