use Rattle.std.specs.Prelude.{◌≡◌, ◌≤◌}
use Rattle.sync_types.specs.FaultSets.{is_in}
use Rattle.halving_plan.specs.Level.{faults_in}
use Rattle.trace.proofs.views.View.faults_in.Given as goal

abbrev pub invariant-loop-i : goal.invariant-loop-i
invariant-loop-i l = record {
  faults : l.faults ≡ faults_in l.first l.i (is_in l.self.faulty.now.ids);
  few : l.faults ≤ l.i;
}
