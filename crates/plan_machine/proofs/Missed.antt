-- A node of a plan that hears N - F correct nodes, itself among them, may miss all others.
use Rattle.plan_machine.specs.PlanMachines.{machine_of_plan}
use Rattle.node_stepper.proofs.Missed as any
use Rattle.plan_machine.specs.Missed.{OthersAreMissed}

pub others_are_missed : OthersAreMissed
others_are_missed plan faulty heard v borne hears =
    any.others_are_missed (machine_of_plan plan) faulty heard v
    (record { rising = borne.rising; ids = borne.ids; few = borne.few }) hears
