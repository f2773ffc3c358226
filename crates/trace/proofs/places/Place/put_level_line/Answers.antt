use Rattle.std.proofs.Common.{◌≡◌, ℕ, ap, ap₂, ◌∙◌, subst}
use Rattle.edge_io.proofs.Writing.{writes_is, writes_then}
use Rattle.sync_types.specs.declared.states.Reg.{Reg}
use Rattle.sync_types.specs.States.{register_at, zero_state}
use Rattle.construction.specs.Plans.{group_size}
use Rattle.construction.specs.Steps.{state_of}
use Rattle.plan_numbers.specs.Numbers.{level_of}
use Rattle.plan_numbers.specs.Sizes.{block_nodes}
use Rattle.boost_step.proofs.Numbers.{related}
use Rattle.trace.specs.LevelTexts.{level_front, heard_if}
use Rattle.trace.specs.Places.{Placed}
use Rattle.counter_core.proofs.StateLists.{within}
use Rattle.trace.proofs.places.Place.put_level_line.Goals as goal

pub returns : goal.returns
returns g c =
    let place = c.args.self.now in
    let view = place.view in
    let nums = place.nums in
    let config = view.config.now in
    let inside = c.self.inside.view.now in
    let own = subst (λ (p : Placed). c.reg-own.result
    ≡ register_at p.below (state_of p.view.config.now p.view.heading.node)) c.self.view_is
    (c.reg-own.ensures ∙ ap (register_at c.self.inside.below)
    (within inside.config.now inside.heading.node c.index-self-node.result
    (zero_state 0) inside.node)) in
    let size = subst (λ (p : Placed). p.nums.nodes
    ≡ group_size (level_of p.nums) (block_nodes p.nums)) c.self.view_is
    (related c.self.inside.nums.now c.self.invariant.numbers).nodes in
    writes_then (writes_is (ap₂ (λ (many : ℕ) (own : Reg).
    level_front view.heading view.faulty.now.ids config place.below place.first many own) size own)
    c.put_level_front.ensures)
    (writes_then (writes_is (ap (λ (own : Reg). heard_if view.hears place.below
    (block_nodes nums) (level_of nums) place.first own.a place.group) own)
    c.put_heard_if.ensures) c.byte.ensures)
