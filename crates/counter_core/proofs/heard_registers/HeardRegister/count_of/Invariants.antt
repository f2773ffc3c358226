use Rattle.std.proofs.Common.{◌≡◌, ◌≤◌, take}
use Rattle.counting.specs.Values.{count_of}
use Rattle.counter_core.specs.HeardRegisters.{values_heard}
use Rattle.counter_core.proofs.heard_registers.HeardRegister.count_of.Given as goal

abbrev pub invariant-loop-place : goal.invariant-loop-place
invariant-loop-place l = record {
  counted : l.count ≡ count_of (take l.place (values_heard l.self)) l.value;
  few : l.count ≤ l.place;
}
