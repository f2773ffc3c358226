use Rattle.std.proofs.Common.{◌≡◌, ℕ, List, length, sym, ap, ◌∙◌, arith}
use Rattle.std.proofs.lemmas.List.{length-replicate}
use Rattle.sync_types.specs.States.{State, zero_register}
use Rattle.construction.specs.Plans.{Plan, plan_depth}
use Rattle.construction.specs.Steps.{step_of}
use Rattle.construction.proofs.Ranges.{length-step_in}
use Rattle.boost_step.proofs.Stepping.{length_written}
use Rattle.shared_board.specs.Sharing.{Shares, heard_with, stands_for}
use Rattle.try_counters.proofs.tower_calls.shared_step.Goals as goal

pub advance_shared-requires-clause-stands : goal.advance_shared-requires-clause-stands
advance_shared-requires-clause-stands g c =
    let shown = c.args.shown.now in
    c.gather.ensures.stands ∙ ap (stands_for shown.tower.now shown.config.now.current)
    (sym (ap (λ (s : Shares). s.faulty) c.gather.ensures.stands))

pub advance_shared-requires-clause-size : goal.advance_shared-requires-clause-size
advance_shared-requires-clause-size g c = c.args.shown.now.size

pub returns : goal.returns
returns g c =
    let plan : Plan = c.args.shown.now.tower.now in
    let config : List State = c.args.shown.now.config.now.current in
    let liars : List ℕ = c.gather.new.shared.faulty in
    let heard : List State = heard_with liars c.args.lies.now config in
    let new : State = step_of plan c.args.shown.now.node heard in
    let old : State = c.set_x.new.self in
    let registers : State → ℕ = λ s. length s.registers in
    let has : length old.registers ≡ plan_depth plan =
    ap registers c.set_x.ensures
    ∙ (ap registers c.in_ok-out.ensures
    ∙ (length-replicate c.depth.result zero_register ∙ c.depth.ensures)) in
    let is = ap registers c.advance_shared.ensures.out in
    let deep = length-step_in plan.base plan.levels c.args.shown.now.node heard in
    omega (arith, is, has, length_written (plan_depth plan) new old deep (omega arith))
