use Rattle.std.proofs.Common.{◌-◌, sym, ◌∙◌, arith}
use Rattle.construction.specs.Plans.{plan_depth}
use Rattle.construction.specs.Runs.{is_in}
use Rattle.run_explanations.specs.Explanations.{outputs_in}
use Rattle.run_explanations.proofs.SeenShown.{leader_below}
use Rattle.run_explanations.proofs.seeing.TopLevelView.see.Goals as goal

pub overflow_cast-leader : goal.overflow_cast-leader
overflow_cast-leader c =
    let is = c.args.self.now.top.small in
    let leaders = is.leaders in
    let few = is.few_leaders in
    let blocks = is.blocks in
    let below = leader_below c.args.self.now.top.numbers (is_in c.args.self.now.faulty.now.ids)
    (outputs_in (plan_depth c.args.self.now.runner.now.plan - 1) c.args.self.now.runner.now.states)
    c.in-One.leader c.args.self.now.top.numbers.blocks (omega (arith, leaders))
    (sym c.pointed.ensures ∙ c.in-One.is) in
    omega (arith, below, few, blocks)

pub is_sound-requires : goal.is_sound-requires
is_sound-requires c =
    let is = c.args.self.now.top.small in
    let leaders = is.leaders in
    let few = is.few_leaders in
    let below = leader_below c.args.self.now.top.numbers (is_in c.args.self.now.faulty.now.ids)
    (outputs_in (plan_depth c.args.self.now.runner.now.plan - 1) c.args.self.now.runner.now.states)
    c.in-One.leader c.args.self.now.top.numbers.blocks (omega (arith, leaders))
    (sym c.pointed.ensures ∙ c.in-One.is) in
    omega (arith, below, few)

pub parted-requires : goal.parted-requires
parted-requires c =
    let is = c.args.self.now.top.small in
    let leaders = is.leaders in
    let few = is.few_leaders in
    let below = leader_below c.args.self.now.top.numbers (is_in c.args.self.now.faulty.now.ids)
    (outputs_in (plan_depth c.args.self.now.runner.now.plan - 1) c.args.self.now.runner.now.states)
    c.in-One.leader c.args.self.now.top.numbers.blocks (omega (arith, leaders))
    (sym c.pointed.ensures ∙ c.in-One.is) in
    omega (arith, below, few)
