use Rattle.std.proofs.Common.{subst, sym}
use Rattle.machines.specs.Machines.{IsState}
use Rattle.node_stepper.proofs.States.{read_is_state}
use Rattle.node_calls.proofs.hearing.node_of.Goals as goal

pub of_machine-requires-clause-state : goal.of_machine-requires-clause-state
of_machine-requires-clause-state g c =
    let m = g.M.Machine.machine c.args.machine in
    subst (IsState m c.args.id) (sym c.read_state.ensures)
    (read_is_state m c.facts.ensures c.args.id c.requires c.args.state.now)
