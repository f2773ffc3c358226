use Rattle.std.specs.Prelude.{true, ◌≡◌, ◌-◌, ◌||◌}
use Rattle.std.specs.List.{list_all, range_with_len}
use Rattle.sync_types.specs.FaultSets.{is_in}
use Rattle.sync_types.specs.States.{register_at}
use Rattle.construction.specs.Steps.{state_of}
use Rattle.machine_runner.specs.Locks.{is_locked_at}
use Rattle.trace.proofs.views.View.all_have.Given as goal

abbrev pub invariant-loop-u : goal.invariant-loop-u
invariant-loop-u l = list_all (λ u. is_in l.self.faulty.now.ids u
    || is_locked_at l.a (register_at l.register (state_of l.self.config.now u)))
    (range_with_len l.first (l.u - l.first)) ≡ true
