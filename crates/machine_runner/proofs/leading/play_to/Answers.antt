use Rattle.std.proofs.Common.{inl, inr, sym, ap, ◌∙◌, arith}
use Rattle.machine_runner.specs.Runners.{next}
use Rattle.machine_runner.proofs.PlayedOn.{stands, has_round, at_is, own_number}
use Rattle.machine_runner.proofs.leading.play_to.Goals as goal

pub loop-init : goal.loop-init
loop-init g c = stands c.args.runner.now _ c.at-counter.ensures

pub returns-then-is_counting-clause-same : goal.returns-then-is_counting-clause-same
returns-then-is_counting-clause-same g c = own_number c.args.runner.now _ _ c.loop.invariant

pub returns-then-is_counting-clause-most : goal.returns-then-is_counting-clause-most
returns-then-is_counting-clause-most g c =
    let at = at_is c.args.runner.now _ _ c.loop.invariant in omega (arith, at, c.loop-test.true)

pub returns-then-is_counting-clause-knows : goal.returns-then-is_counting-clause-knows
returns-then-is_counting-clause-knows g c =
    inr (sym c.is_counting.ensures ∙ c.if-is_counting.true)

pub round-requires : goal.round-requires
round-requires g c =
    has_round c.args.runner.now _ _ c.loop.invariant _ c.loop-test.true c.requires.within

pub loop-preserved : goal.loop-preserved
loop-preserved g c = c.round.ensures ∙ ap next c.loop.invariant

pub returns-clause-same : goal.returns-clause-same
returns-clause-same g c = own_number c.args.runner.now _ _ c.loop.invariant

pub returns-clause-most : goal.returns-clause-most
returns-clause-most g c =
    let at = at_is c.args.runner.now _ _ c.loop.invariant in
    let from = c.requires.from in
    omega (arith, at, from, c.at-counter.ensures, c.loop.auto.counter, c.loop-test.false)

pub returns-clause-knows : goal.returns-clause-knows
returns-clause-knows g c =
    let at = at_is c.args.runner.now _ _ c.loop.invariant in
    let from = c.requires.from in
    inl (omega (arith, at, from, c.at-counter.ensures, c.loop.auto.counter, c.loop-test.false))
