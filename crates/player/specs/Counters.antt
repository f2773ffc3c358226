-- A machine as a counter on which a layer may stand.
use Rattle.counter_core.specs.Meanings.{Meaning}
use Rattle.machines.specs.Machines.{Machine, core}

-- its numbers, what its states show, and the step
abbrev pub machine_counter : Machine → Meaning
machine_counter machine = core machine
