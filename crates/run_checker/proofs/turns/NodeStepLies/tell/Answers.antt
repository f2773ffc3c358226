use Rattle.std.proofs.Common.{◌≡◌, ◌<◌, ◌+◌, ◌*◌, Bool, ℕ, List, true, false, not, length, refl}
use Rattle.std.proofs.Common.{sym, ap, ◌∙◌, subst, arith}
use Rattle.std.specs.Prelude.{slice_index}
use Rattle.std.proofs.lemmas.List.{length-replicate}
use Rattle.sync_types.specs.FaultSets.{is_in}
use Rattle.sync_types.specs.States.{State, zero_state, zero_register}
use Rattle.construction.specs.Plans.{Plan, plan_nodes, plan_depth}
use Rattle.plan_numbers.specs.Premises.{IsAccepted}
use Rattle.plan_laws.specs.PlanMeaning.{IsInRange}
use Rattle.plan_laws.proofs.PlanCounter.{plan_zero}
use Rattle.round_runner.specs.declared.hearers.Hearer.{Hearer}
use Rattle.run_checker.specs.declared.turns.NodeStep.{NodeStep}
use Rattle.run_checker.specs.Grammar.{pairs_of}
use Rattle.run_checker.specs.Hearing.{IsTo}
use Rattle.run_checker.specs.Rounds.{told_for}
use Rattle.run_checker.proofs.BodyKept.{shape_has_depth}
use Rattle.run_checker.proofs.ToldPlaces.{none_told, told_within, told_there}
use Rattle.run_checker.proofs.turns.NodeStepLies.tell.Goals as goal

-- what is not a faulty node is a correct one, and the other way round
is_not : (b a : Bool) → a ≡ not b → a ≡ true → b ≡ false
is_not true a is e = sym e ∙ is
is_not false a is e = refl

is_so : (b a : Bool) → a ≡ not b → a ≡ false → b ≡ true
is_so true a is e = refl
is_so false a is e = sym e ∙ is

-- what a correct node is told stands at its place
there : (turn : NodeStep) (hearer : Hearer) (j : ℕ) → IsTo turn hearer
    → j < length hearer.faulty.now.ids → turn.is_correct ≡ true
    → j * turn.round.now.correct + turn.before < length turn.round.now.told.now.states
there turn hearer j tells place so =
    let round = turn.round.now in
    let same = ap (λ (ids : List ℕ). length ids) tells.ids in
    told_within round.tower.now round.faulty.now.ids round.told.now.states turn.v round.correct
    turn.before j turn.node
    (is_not (is_in round.faulty.now.ids turn.v) turn.is_correct turn.correct so) round.count
    turn.stand (omega (arith, place, same)) round.whole

pub overflow_mul-j : goal.overflow_mul-j
overflow_mul-j c =
    let lt = there c.args.self.now c.args.hearer.now c.args.j c.requires.tells c.requires.place
    c.if-self.true in
    omega (arith, lt, c.count.ensures.value, c.count.ensures.most)

pub overflow_add-j : goal.overflow_add-j
overflow_add-j c =
    let lt = there c.args.self.now c.args.hearer.now c.args.j c.requires.tells c.requires.place
    c.if-self.true in
    omega (arith, lt, c.count.ensures.value, c.count.ensures.most)

pub read-requires-clause-told : goal.read-requires-clause-told
read-requires-clause-told c =
    there c.args.self.now c.args.hearer.now c.args.j c.requires.tells c.requires.place
    c.if-self.true

pub read-requires-clause-depth : goal.read-requires-clause-depth
read-requires-clause-depth c =
    let round = c.args.self.now.round.now in
    c.requires.depth ∙ c.requires.tells.depth
    ∙ sym (shape_has_depth round.tower.now round.told.now.shape round.shape)

pub copy_from-requires : goal.copy_from-requires
copy_from-requires c =
    let round = c.args.self.now.round.now in
    ap (λ (s : State). length s.registers) round.zeros
    ∙ length-replicate (plan_depth round.tower.now) zero_register
    ∙ sym (c.requires.depth ∙ c.requires.tells.depth)

pub returns-then-self-clause-value : goal.returns-then-self-clause-value
returns-then-self-clause-value c =
    let turn = c.args.self.now in
    let round = turn.round.now in
    let plan : Plan = round.tower.now in
    let ids : List ℕ = round.faulty.now.ids in
    let told : List State = round.told.now.states in
    let tells = c.requires.tells in
    let same = ap (λ (ids : List ℕ). length ids) tells.ids in
    c.read.ensures
    ∙ told_there plan ids told turn.v round.correct turn.before c.args.j turn.node
    (is_not (is_in ids turn.v) turn.is_correct turn.correct c.if-self.true)
    round.count turn.stand (omega (arith, c.requires.place, same)) round.whole round.ids.rising
    ∙ ap (λ (u : ℕ). told_for (plan_depth plan) (pairs_of (plan_nodes plan) ids) told u turn.v)
    (ap (λ (xs : List ℕ). slice_index xs c.args.j) (sym tells.ids) ∙ c.requires.id)
    ∙ ap (told_for (plan_depth plan) (pairs_of (plan_nodes plan) ids) told c.args._u)
    (sym tells.node)

pub returns-then-self-clause-deep : goal.returns-then-self-clause-deep
returns-then-self-clause-deep c =
    let tells = c.requires.tells in
    ap (λ (s : State). length s.registers) c.read.ensures
    ∙ tells.said.deep _ (zero_state 0) (there c.args.self.now c.args.hearer.now
    c.args.j tells c.requires.place c.if-self.true) ∙ sym tells.depth

pub returns-then-self-clause-range : goal.returns-then-self-clause-range
returns-then-self-clause-range c =
    let tells = c.requires.tells in
    subst (λ (p : Plan). IsInRange p c.read.new.out) (sym tells.tower)
    (subst (IsInRange c.args.self.now.round.now.tower.now) (sym c.read.ensures)
    (tells.said.range _ (zero_state 0) (there c.args.self.now c.args.hearer.now
    c.args.j tells c.requires.place c.if-self.true)))

-- a faulty one is told nothing
pub returns-else-self-clause-value : goal.returns-else-self-clause-value
returns-else-self-clause-value c =
    let turn = c.args.self.now in
    let round = turn.round.now in
    let plan : Plan = round.tower.now in
    let ids : List ℕ = round.faulty.now.ids in
    let told : List State = round.told.now.states in
    c.copy_from.ensures ∙ round.zeros
    ∙ sym (none_told (plan_depth plan) (plan_nodes plan) turn.v ids
    (is_so (is_in ids turn.v) turn.is_correct turn.correct c.if-self.false) told c.args._u)
    ∙ ap (told_for (plan_depth plan) (pairs_of (plan_nodes plan) ids) told c.args._u)
    (sym c.requires.tells.node)

pub returns-else-self-clause-deep : goal.returns-else-self-clause-deep
returns-else-self-clause-deep c =
    let round = c.args.self.now.round.now in
    ap (λ (s : State). length s.registers) (c.copy_from.ensures ∙ round.zeros)
    ∙ length-replicate (plan_depth round.tower.now) zero_register ∙ sym c.requires.tells.depth

pub returns-else-self-clause-range : goal.returns-else-self-clause-range
returns-else-self-clause-range c =
    let tells = c.requires.tells in
    let plan = c.args.self.now.round.now.tower.now in
    subst (λ (p : Plan). IsInRange p c.copy_from.new.self) (sym tells.tower)
    (subst (IsInRange plan) (sym (c.copy_from.ensures ∙ c.args.self.now.round.now.zeros))
    (plan_zero plan (subst IsAccepted tells.tower c.tell.ensures)))
