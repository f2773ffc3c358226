use Rattle.std.specs.Prelude.{◌≡◌}
use Rattle.machine_runner.proofs.Told.{ToldBelow}
use Rattle.machine_runner.proofs.hearing.Receiver.hear.Given as goal

abbrev pub invariant-loop-i : goal.invariant-loop-i
invariant-loop-i l = record {
  told : ToldBelow l.self.script.now l.self.t l.self.v l.self.states.now.current
      l.self.faulty.now.ids l.i l.heard;
  noise : l.noise ≡ l.fn.noise;
}
