use Rattle.std.proofs.Common.{◌≡◌}
use Rattle.std.specs.Prelude.{length}
use Rattle.adversary_script.specs.Lies.{start_of}
use Rattle.machine_runner.proofs.Filled.{FilledBelow}
use Rattle.machine_runner.proofs.stepping.start_all.Given as goal

abbrev pub invariant-loop-v : goal.invariant-loop-v
invariant-loop-v l = record {
  filled : FilledBelow (start_of l.script) l.script.nodes l.v l.states.next;
  deep : length l.out.registers ≡ l.script.shape.depth;
  noise : l.noise ≡ l.script.key;
  shape : l.states.shape ≡ l.fn.states.shape;
}
