use Rattle.std.proofs.Common.{subst, sym}
use Rattle.machines.specs.Machines.{IsState}
use Rattle.machines.proofs.Fronts.{whole_front}
use Rattle.node_stepper.proofs.States.{read_is_state}
use Rattle.node_calls.proofs.calls.shown_by.Goals as goal

pub output-requires-clause-state : goal.output-requires-clause-state
output-requires-clause-state g c =
    let m = g.M.Machine.machine c.args.machine.now in
    whole_front m c.facts.ensures c.args.id c.requires _
    (subst (IsState m c.args.id) (sym c.read_state.ensures)
    (read_is_state m c.facts.ensures c.args.id c.requires c.args.state.now))
