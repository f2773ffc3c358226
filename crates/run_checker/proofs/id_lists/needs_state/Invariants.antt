use Rattle.std.proofs.Common.{◌≡◌}
use Rattle.run_checker.specs.Checking.{needs_state}
use Rattle.run_checker.proofs.id_lists.needs_state.Given as goal

abbrev pub invariant-loop-v : goal.invariant-loop-v
invariant-loop-v l = needs_state l.unknown.ids l.faulty.ids l.from l.to
    ≡ needs_state l.unknown.ids l.faulty.ids l.v l.to
