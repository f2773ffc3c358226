use Rattle.std.proofs.Common.{◌≡◌, take}
use Rattle.counter_core.specs.HeardRegisters.{values_heard}
use Rattle.counter_core.proofs.heard_registers.HeardRegister.least.Given as goal

abbrev pub invariant-loop-place : goal.invariant-loop-place
invariant-loop-place l = record {
  values : l.values.values ≡ take l.place (values_heard l.self);
  capacity : l.values.capacity ≡ l.fn.values.capacity;
}
