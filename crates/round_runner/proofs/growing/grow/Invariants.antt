use Rattle.std.proofs.Common.{◌≡◌, ◌<◌, length, ℕ}
use Rattle.construction.specs.Steps.{state_of}
use Rattle.state_codec.specs.Shapes.{fields_at}
use Rattle.adversary_script.specs.Lies.{shifted}
use Rattle.round_runner.proofs.growing.grow.Given as goal

abbrev pub invariant-loop-v : goal.invariant-loop-v
invariant-loop-v l = record {
  fixed : l.states ≡ record l.fn.states { next = l.states.next };
  size : length l.states.next ≡ length l.fn.states.current;
  depth : length l.out.registers ≡ length l.fn.out.registers;
  filled : (u : ℕ) → u < l.v → state_of l.states.next u
      ≡ shifted l.by (fields_at l.fn.states.shape u) (state_of l.fn.states.current u);
}
