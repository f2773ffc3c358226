use Rattle.std.proofs.Common.{◌≡◌, ℕ, ◌∙◌, ap, ap₂, take, List, length, drop, sym, subst, arith}
use Rattle.std.proofs.lemmas.List.{map-id, take_all, take_at}
use Rattle.sync_types.specs.declared.states.Reg.{Reg}
use Rattle.sync_types.specs.States.{State, zero_state}
use Rattle.counter_core.specs.Meanings.{written, cut}
use Rattle.halving_plan.specs.Steps.{step_in, step_of, tree_depth}
use Rattle.halving_plan.specs.Runs.{IsState}
use Rattle.halving_plan.proofs.Ranges.{step_is_state, depth_most}
use Rattle.halving_plan.specs.Groups.{HalvingGroup, whole_of}
use Rattle.halving_plan.specs.Plans.{HalvingNumbers, tree_of}
use Rattle.halving_plan.specs.GroupStates.{overlaid, stretch}
use Rattle.halving_plan.proofs.Stretches.{step_by}
use Rattle.halving_plan.proofs.WrittenStates.{over_cleared}
use Rattle.halving_plan.proofs.counters.advance.Goals as goal

-- all that is heard is the stretch of all nodes
all_heard : (plan : HalvingNumbers) (heard : List State) → length heard ≡ plan.nodes
    → stretch (whole_of plan) heard ≡ heard
all_heard plan heard size = map-id (take plan.nodes heard) ∙ take_all plan.nodes heard (omega arith)

whole_step : (plan : HalvingNumbers) (v : ℕ) (heard : List State) → length heard ≡ plan.nodes
    → step_by (whole_of plan) v heard ≡ step_in (tree_of plan) plan.modulus v heard
whole_step plan v heard size =
    ap₂ (step_in (tree_of plan) plan.modulus) (omega arith) (all_heard plan heard size)

pub returns-clause-out : goal.returns-clause-out
returns-clause-out c =
    let plan = c.args.plan.now in
    let tree = tree_of plan in
    let v = c.args.node in
    let heard = c.args.heard.now in
    let out = c.args.out.now in
    let step = step_in tree plan.modulus v heard in
    c.step_group.ensures.out
    ∙ (ap (λ (w : HalvingGroup). overlaid w.register (step_by w v heard) c.clear.new.state)
    c.whole.ensures
    ∙ (ap₂ (overlaid 0) (whole_step plan v heard c.requires.heard.size) (c.clear.ensures
    ∙ ap (λ d. written d (zero_state d) out) c.depth.ensures)
    ∙ over_cleared (tree_depth tree) step out (depth_most tree plan.modulus v heard)))

pub returns-clause-state : goal.returns-clause-state
returns-clause-state c =
    let plan = c.args.plan.now in
    let tree = tree_of plan in
    let v = c.args.node in
    let out = c.args.out.now in
    let least = c.facts.ensures.least_modulus in
    let step = step_of tree plan.modulus v c.args.heard.now in
    let is = step_is_state tree plan.modulus v c.args.heard.now (omega arith) in
    let same : cut (tree_depth tree) (written (tree_depth tree) step out) ≡ step =
    ap (λ (ys : List Reg). record { x = step.x; registers = ys })
    (take_at step.registers (drop (tree_depth tree) out.registers) (tree_depth tree) is.depth)
    in
    subst (IsState tree plan.modulus v)
    (sym (ap (cut (tree_depth tree)) (returns-clause-out c) ∙ same)) is
