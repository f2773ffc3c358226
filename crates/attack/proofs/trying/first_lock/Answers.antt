use Rattle.std.proofs.Common.{ap, ◌∙◌, arith}
use Rattle.machine_runner.specs.Runners.{next}
use Rattle.attack.proofs.FirstLock.{stands, has_round, known_so, known_at_end}
use Rattle.attack.proofs.trying.first_lock.Goals as goal

pub loop-init : goal.loop-init
loop-init g c = stands c.args.runner.now c.requires

pub returns-then-is_some : goal.returns-then-is_some
returns-then-is_some g c =
    known_so g.M.Machine.machine c.args.runner.now _ _ _ _ c.loop.invariant
    (omega (arith, c.rounds_left-rounds.ensures, c.requires, c.loop-test.true))
    c.lock_of-lock.ensures c.is_some.ensures c.if-is_some.true

pub round-requires : goal.round-requires
round-requires g c =
    has_round c.args.runner.now _ _ _ c.loop.invariant c.requires c.rounds_left-rounds.ensures
    c.loop-test.true

pub loop-preserved : goal.loop-preserved
loop-preserved g c = c.round.ensures ∙ ap next c.loop.invariant

pub returns : goal.returns
returns g c =
    known_at_end g.M.Machine.machine c.args.runner.now _ _ _ c.loop.invariant
    (omega (arith, c.rounds_left-rounds.ensures, c.requires, c.loop-test.false))
    c.lock_of.ensures
