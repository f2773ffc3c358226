use Rattle.std.proofs.Common.{◌≡◌, length, take, replicate}
use Rattle.sync_types.specs.States.{zero_register}
use Rattle.adversary_script.proofs.shifting.zero_into.Given as goal

abbrev pub invariant-loop-i : goal.invariant-loop-i
invariant-loop-i l = record {
  number : l.out.x ≡ 0;
  depth : length l.out.registers ≡ length l.fn.out.registers;
  zeros : take l.i l.out.registers ≡ replicate l.i zero_register;
}
