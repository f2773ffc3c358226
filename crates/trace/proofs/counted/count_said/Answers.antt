use Rattle.std.proofs.Common.{ℕ, ◌-◌, List, map, take, drop, Option, ap, ap₂, ◌∙◌, sym, subst}
use Rattle.std.specs.Prelude.{nat_le, slice_index_or}
use Rattle.counting.specs.Values.{count_of, least_above}
use Rattle.sync_types.specs.States.{State, register_at}
use Rattle.counter_core.specs.HeardRegisters.{RegisterHeard, values_heard}
use Rattle.halving_plan.specs.LevelStates.{saw, values_of}
use Rattle.halving_plan.specs.GroupStates.{HasGroup, section}
use Rattle.halving_plan.specs.Groups.{HalvingGroup}
use Rattle.halving_plan.specs.GroupHearing.{level_states_in}
use Rattle.halving_plan.proofs.Depths.{right_deep}
use Rattle.halving_plan.proofs.GroupHeard.{saw_is, values_are}
use Rattle.halving_plan.proofs.Numbers.{both_parts}
use Rattle.trace.proofs.counted.count_said.Goals as goal

pub shown-right-requires-clause-deep : goal.shown-right-requires-clause-deep
shown-right-requires-clause-deep c = λ k d lt.
    let seen = c.args.seen.now in
    let s = slice_index_or seen.heard.now k d in
    subst (λ (g : HalvingGroup). HasGroup g s) (sym c.right.ensures)
    (right_deep seen.group s seen.halves (seen.halves_hear k d lt))

pub returns-clause-saw : goal.returns-clause-saw
returns-clause-saw c =
    let group = c.args.seen.now.group in
    c.count_group-counts.ensures.saw ∙ saw_is group c.args.own.now.seen c.args.seen.now.heard.now

pub returns-clause-backed : goal.returns-clause-backed
returns-clause-backed c =
    let group = c.args.seen.now.group in
    let states = level_states_in group c.args.seen.now.heard.now in
    c.is_backed-backed.ensures
    ∙ (ap (nat_le (group.nodes - group.faults))
    (c.count_group-counts.ensures.saw
    ∙ saw_is group c.args.own.now.seen c.args.seen.now.heard.now)
    ∙ ap (λ (f : ℕ). nat_le (group.nodes - f) (saw c.args.own.now.seen states))
    (sym (both_parts group.faults c.args.seen.now.halves)))

pub returns-clause-same : goal.returns-clause-same
returns-clause-same c =
    let group = c.args.seen.now.group in
    let heard = c.args.seen.now.heard.now in
    c.count_group-counts.ensures.same
    ∙ ap (λ (values : List (Option _)). count_of values c.args.own.now.register.a)
    (values_are group heard)

pub returns-clause-least : goal.returns-clause-least
returns-clause-least c =
    let group = c.args.seen.now.group in
    let heard = c.args.seen.now.heard.now in
    let of : (register faults : ℕ) → List State → Option ℕ = λ register faults states.
    least_above faults (map (λ s. (register_at register s).a) states) in
    c.least-least.ensures.least
    ∙ (ap (λ (h : RegisterHeard). least_above h.faults (values_heard h)) c.of-registers.ensures
    ∙ (ap (of c.register.result c.faults-faults.result) c.stretch-stretch.ensures
    ∙ (ap₂ (λ first nodes. of c.register.result c.faults-faults.result
    (take nodes (drop first heard))) c.first.ensures c.nodes-nodes.ensures
    ∙ (ap₂ (λ register faults. of register faults (section group.first group.nodes heard))
    c.register.ensures c.faults-faults.ensures
    ∙ ap (least_above group.faults) (values_are group heard)))))
