use Rattle.std.proofs.Common.{ℕ, List, length, sym, ap, ◌∙◌, subst, arith}
use Rattle.std.proofs.lemmas.List.{with_items_is}
use Rattle.sync_types.specs.FaultSets.{FaultIds, is_in}
use Rattle.sync_types.specs.States.{State}
use Rattle.adversary_script.specs.Eras.{faulty_at}
use Rattle.machine_runner.specs.Hearing.{HasRoom}
use Rattle.machine_runner.specs.Runners.{Running, states_of}
use Rattle.halving_plan.specs.Laws.{machine_in}
use Rattle.halving_plan.specs.Plans.{HalvingNumbers, IsAccepted}
use Rattle.halving_plan.proofs.Sound.{nodes_are}
use Rattle.edge_io.proofs.Writing.{writes_is, writes_then}
use Rattle.trace.proofs.Around.{whole_around}
use Rattle.trace.proofs.HalvingHearing.{view_is}
use Rattle.trace.proofs.halving_tracing.put_node_lines.Goals as goal

pub hear-hears-requires-clause-node : goal.hear-hears-requires-clause-node
hear-hears-requires-clause-node g c =
    let plan_is = c.plan-plan.ensures ∙ c.machine.ensures in
    let accepted = subst (λ (p : HalvingNumbers). IsAccepted p) plan_is c.facts-2.ensures in
    omega (arith, nodes_are c.args.runner.now.machine accepted, c.requires.node)

pub invariant_of-view : goal.invariant_of-view
invariant_of-view g c =
    let r = c.args.runner.now in
    let plan_is = c.plan-plan.ensures ∙ c.machine.ensures in
    let accepted = subst (λ (p : HalvingNumbers). IsAccepted p) plan_is c.facts-2.ensures in
    let nodes = c.facts.ensures.read.right.nodes in
    let size = c.requires.desk.config.size in
    let long = ap (λ (xs : List State). length xs) c.deref.ensures.value in
    record {
      node = omega (arith, nodes_are r.machine accepted, c.requires.node, nodes, size, long);
      few = omega (arith, nodes_are r.machine accepted, accepted.most_nodes, nodes, size, long);
    }

pub put_groups-requires : goal.put_groups-requires
put_groups-requires g c =
    let r = c.args.runner.now in
    let plan_is = c.plan-plan.ensures ∙ c.machine.ensures in
    let accepted = subst (λ (p : HalvingNumbers). IsAccepted p) plan_is c.facts-2.ensures in
    let long = c.hear-hears.auto.heard ∙ c.deref_mut.ensures.len in
    let heard = c.of-heard.ensures ∙ c.deref-2.ensures.value
    ∙ with_items_is c.args.desk.now.heard c.hear-hears.new.heard long in
    rw c.whole.ensures (whole_around r.machine c.plan-plan.result r.script _ _ plan_is accepted
    c.facts.ensures.read c.requires.node
    (subst (λ (xs : List State). HasRoom r.script xs) (sym c.deref.ensures.value)
    c.requires.desk.config)
    (subst (λ (xs : List State). HasRoom r.script xs) (sym heard) c.hear-hears.ensures.room))

pub returns-clause-lines : goal.returns-clause-lines
returns-clause-lines g c =
    let r = c.args.runner.now in
    let same = c.hear-hears.ensures.same in
    let at = c.at.ensures ∙ ap (λ (q : Running HalvingNumbers). q.at) same in
    let ids = ap (λ (s : FaultIds). s.ids) c.faulty-faulty.ensures
    ∙ ap (λ (q : Running HalvingNumbers). faulty_at q.script q.at) same in
    let long = c.hear-hears.auto.heard ∙ c.deref_mut.ensures.len in
    writes_is
    (view_is r.machine r.script r.at c.args.v (states_of machine_in r) _ _ _ _ _ _ _ at
    (c.contains.ensures ∙ ap (λ (xs : List ℕ). is_in xs c.args.v) ids) ids
    (c.deref.ensures.value ∙ c.requires.laid) c.hear-hears.ensures.hears
    (c.plan-plan.ensures ∙ c.machine.ensures)
    (λ hears. c.of-heard.ensures ∙ c.deref-2.ensures.value
    ∙ (with_items_is c.args.desk.now.heard c.hear-hears.new.heard long
    ∙ c.hear-hears.ensures.heard hears)))
    (writes_then c.put_state.ensures (rw c.whole.ensures at c.put_groups.ensures))
