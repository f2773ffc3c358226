use Rattle.std.proofs.Common.{◌≡◌, ℕ, ◌+◌, ◌-◌, ◌%◌, ◌≤◌, ap, ap₂, ◌∙◌, subst, sym, length, arith}
use Rattle.std.specs.Prelude.{slice_index_or, nat_le}
use Rattle.sync_types.specs.declared.states.Reg.{Reg}
use Rattle.sync_types.specs.States.{State, zero_state}
use Rattle.counting.specs.Values.{count_of}
use Rattle.construction.specs.Steps.{state_of}
use Rattle.construction.specs.PhaseKing.{instructed, up}
use Rattle.halving_plan.specs.LevelStates.{LevelState, shown, follows_left, instruction_of, king_of}
use Rattle.halving_plan.specs.Groups.{HalvingGroup, sizes_of}
use Rattle.halving_plan.specs.GroupStates.{HasGroup}
use Rattle.halving_plan.specs.GroupHearing.{level_state_in, outputs_in, values_in}
use Rattle.halving_plan.proofs.Depths.{two_deep, left_deep, right_deep}
use Rattle.halving_plan.proofs.GroupHeard.{level_state_is, saw_is}
use Rattle.halving_plan.proofs.hearing.new_level_state.Goals as goal

pub read-own-requires : goal.read-own-requires
read-own-requires c =
    let g = c.args.group.now in
    subst (λ (s : State). g.register + 2 ≤ length s.registers) (sym c.state.ensures)
    (two_deep g (state_of c.args.heard.now c.args.node) c.requires.halves
    (c.requires.deep c.args.node (zero_state 0) c.requires.node))

pub obey-register-requires-clause-deep : goal.obey-register-requires-clause-deep
obey-register-requires-clause-deep c = λ k d lt.
    let two = two_deep c.args.group.now (slice_index_or c.args.heard.now k d) c.requires.halves
    (c.requires.deep k d lt) in
    omega (arith, two)

pub count_group-counts-requires-clause-deep : goal.count_group-counts-requires-clause-deep
count_group-counts-requires-clause-deep c = λ k d lt.
    two_deep c.args.group.now (slice_index_or c.args.heard.now k d) c.requires.halves
    (c.requires.deep k d lt)

pub shown-left-requires-clause-deep : goal.shown-left-requires-clause-deep
shown-left-requires-clause-deep c = λ k d lt.
    let s = slice_index_or c.args.heard.now k d in
    subst (λ (g : HalvingGroup). HasGroup g s) (sym c.left.ensures)
    (left_deep c.args.group.now s c.requires.halves (c.requires.deep k d lt))

pub shown-right-requires-clause-deep : goal.shown-right-requires-clause-deep
shown-right-requires-clause-deep c = λ k d lt.
    let s = slice_index_or c.args.heard.now k d in
    subst (λ (g : HalvingGroup). HasGroup g s) (sym c.right.ensures)
    (right_deep c.args.group.now s c.requires.halves (c.requires.deep k d lt))

pub obey-register-requires-clause-same : goal.obey-register-requires-clause-same
obey-register-requires-clause-same c =
    c.count_group-counts.ensures.same
    ∙ ap (λ (p : LevelState). count_of (values_in c.args.group.now c.args.heard.now) p.register.a)
    (sym c.own.view_is)

pub returns-clause-level_state : goal.returns-clause-level_state
returns-clause-level_state c =
    let g = c.args.group.now in
    let heard = c.args.heard.now in
    let own = c.read-own.result in
    let halves = sizes_of g in
    let values = values_in g heard in
    let backed = c.is_backed-backed.result in
    let left = c.shown-left.result in
    let right = c.shown-right.result in
    let obeyed : (instruction place : ℕ) (own : LevelState) → Reg = λ i place own.
    instructed g.nodes g.faults (up g.modulus) (i % 3) own.register values place in
    let instruction = c.instruction-instruction.result in
    let register : c.obey-register.result
    ≡ (let follows = follows_left halves own backed in
    let i = instruction_of halves follows own.seen right in
    obeyed i (king_of halves follows i) own) =
    c.obey-register.ensures.register
    ∙ (ap₂ (obeyed instruction) c.king_place-place.ensures c.own.view_is
    ∙ (ap (λ i. obeyed i (king_of halves c.follows_left-follows.result i) own)
    c.instruction-instruction.ensures
    ∙ ap (λ w. let i = instruction_of halves w own.seen right in
    obeyed i (king_of halves w i) own) c.follows_left-follows.ensures)) in
    ap₂ (λ r t. let p : LevelState = record { register = r; seen = left; trusted = t } in p)
    register c.trusts.ensures
    ∙ level_state_is g c.args.node heard own left right backed c.requires.halves
    (c.read-own.ensures ∙ ap (level_state_in g) c.state.ensures)
    (c.shown-left.ensures
    ∙ ap (λ (h : HalvingGroup). shown h.modulus (outputs_in h heard)) c.left.ensures)
    (c.shown-right.ensures
    ∙ ap (λ (h : HalvingGroup). shown h.modulus (outputs_in h heard)) c.right.ensures)
    (c.is_backed-backed.ensures
    ∙ ap (nat_le (g.nodes - g.faults))
    (c.count_group-counts.ensures.saw ∙ saw_is g own.seen heard))
