use Rattle.std.proofs.Common.{◌≡◌, ℕ, ◌*◌, List, take, map, ap, ◌∙◌, subst}
use Rattle.edge_io.proofs.Writing.{writes_is, writes_then}
use Rattle.sync_types.specs.States.{State}
use Rattle.construction.specs.Shown.{shown}
use Rattle.plan_numbers.specs.Numbers.{level_of}
use Rattle.plan_numbers.specs.Sizes.{block_nodes}
use Rattle.boost_step.specs.Numbers.{in_blocks}
use Rattle.boost_step.proofs.Numbers.{related}
use Rattle.trace.specs.LevelTexts.{votes_part, turn_part}
use Rattle.trace.specs.Places.{Placed}
use Rattle.trace.proofs.places.Place.put_heard.Goals as goal

-- what is laid out is what the nodes of the blocks show
laid_is : (l blocks n size : ℕ) (items : List ℕ) (group : List State) → n ≡ size
    → take (blocks * n) items ≡ map (shown l) (take (blocks * n) group)
    → take (blocks * size) items ≡ map (shown l) (take (blocks * size) group)
laid_is l blocks n size items group same is =
    subst (λ (n : ℕ). take (blocks * n) items ≡ map (shown l) (take (blocks * n) group)) same is

pub block_nodes-requires : goal.block_nodes-requires
block_nodes-requires g c = (related c.self.inside.nums.now c.self.invariant.numbers).sized

pub returns : goal.returns
returns g c =
    let nums = c.args.self.now.nums in
    let first = c.args.self.now.first in
    let laid = subst (λ (p : Placed). take (in_blocks p.nums) c.set_outputs.new.work.outputs.items
    ≡ map (shown p.below) (take (in_blocks p.nums) p.group)) c.self.view_is
    (laid_is c.self.inside.below c.self.inside.nums.now.blocks _ _ _ c.self.inside.group.now
    c.block_nodes.ensures c.set_outputs.ensures.outputs) in
    let still = ap (λ o. take (in_blocks nums) o.items) c.put_votes.ensures.work.outputs ∙ laid in
    writes_then
    (writes_is (ap (votes_part (block_nodes nums) (level_of nums)) laid)
    c.put_votes.ensures.part)
    (writes_then
    (writes_is (ap (turn_part (block_nodes nums) (level_of nums) first) still)
    c.put_turn.ensures.part)
    c.put_counts.ensures)
