use Rattle.std.proofs.Common.{◌≡◌, ℕ, ◌*◌, ◌%◌, List, take, map, ap, ◌∙◌}
use Rattle.std.specs.List.{range_with_len}
use Rattle.sync_types.specs.States.{register_at}
use Rattle.construction.specs.Steps.{state_of, register_after}
use Rattle.plan_numbers.specs.Numbers.{level_of}
use Rattle.plan_laws.specs.Boosted.{outputs_heard}
use Rattle.boost_step.specs.Groups.{counter_below}
use Rattle.boost_step.specs.Numbers.{block_nodes, in_blocks}
use Rattle.boost_step.proofs.Numbers.{block_nodes_below}
use Rattle.boost_step.proofs.nodes.Node.level_register.Goals as goal

pub returns-clause-register : goal.returns-clause-register
returns-clause-register g c =
    let m = g.A.Counter.meaning c.args.self.now.inner.now in
    let nums = c.args.self.now.nums.now in
    let level = level_of nums in
    let heard = c.args.self.now.heard.now in
    let items = c.hear_outputs.new.work.outputs.items in
    let d = c.depth.result in
    let by = λ (n d : ℕ) (outputs : List ℕ). register_after n level
    (register_at d (state_of heard c.args.self.now.place)) outputs
    (map (λ s. (register_at d s).a) heard) in
    let block : block_nodes nums ≡ m.nodes =
    block_nodes_below (counter_below m) nums c.args.self.now.numbers in
    let outputs : take (in_blocks nums) items ≡ outputs_heard m level heard =
    c.hear_outputs.ensures.outputs
    ∙ ap (λ n. map (λ u. m.shows (u % m.nodes) (state_of heard u))
    (range_with_len 0 (nums.blocks * n))) block in
    c.level_step.ensures.register
    ∙ (ap (λ n. by n d (take (in_blocks nums) items)) block
    ∙ (ap (by m.nodes d) outputs
    ∙ ap (λ d. by m.nodes d (outputs_heard m level heard)) c.depth.ensures))
