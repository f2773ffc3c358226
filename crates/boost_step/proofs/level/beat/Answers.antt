use Rattle.std.proofs.Common.{◌+◌, ◌-◌, ◌*◌, ◌<◌, map, take, drop, ap, sym, ◌∙◌, subst, arith, refl}
use Rattle.counting.specs.Values.{majority_or_zero}
use Rattle.construction.specs.Pointers.{part_of}
use Rattle.construction.specs.Votes.{lead, beat_heard}
use Rattle.plan_numbers.specs.Numbers.{level_of}
use Rattle.boost_step.specs.Numbers.{block_nodes, in_blocks}
use Rattle.boost_step.proofs.Numbers.{related}
use Rattle.boost_step.proofs.LevelVotes.{beat_below, beat_of_slice}
use Rattle.boost_step.proofs.level.beat.Goals as goal

pub block_nodes-n-requires : goal.block_nodes-n-requires
block_nodes-n-requires c = (related c.args.nums.now c.requires.numbers).sized

pub returns-clause-beat : goal.returns-clause-beat
returns-clause-beat c =
    let nums = c.args.nums.now in
    let level = level_of nums in
    let n = c.block_nodes-n.result in
    let e = c.block_nodes-n.ensures in
    let outputs = take (in_blocks nums) c.args.work.now.outputs.items in
    let r = related nums c.requires.numbers in
    let start = c.lead.result * n in
    let below = c.lead.ensures.below in
    let blocks = r.sized.blocks in
    let many = r.leaders in
    beat_of_slice level n (in_blocks nums) c.lead.result start nums.beat c.block_beat.result
    c.args.work.now.outputs.items (ap (λ n. nums.blocks * n) (sym e)) (omega arith) refl
    (c.lead.ensures.lead ∙ ap (λ n. lead level n outputs) (sym e)) r.beat
    (c.block_beat.ensures
    ∙ ap (λ xs. majority_or_zero
    (map (part_of nums.beat) (take (start + n - start) (drop start xs))))
    (c.deref.ensures.value ∙ ap (λ o. o.items) c.lead.ensures.work.outputs))
    ∙ ap (λ n. beat_heard level n outputs) e

pub returns-clause-below : goal.returns-clause-below
returns-clause-below c =
    let nums = c.args.nums.now in
    let r = related nums c.requires.numbers in
    let outputs = take (in_blocks nums) c.args.work.now.outputs.items in
    let n = block_nodes nums in
    subst (λ x. x < nums.beat) (sym (returns-clause-beat c))
    (subst (λ m. beat_heard (level_of nums) n outputs < m) (sym r.beat)
    (beat_below (level_of nums) n outputs))
