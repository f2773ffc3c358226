use Rattle.std.proofs.Common.{◌≡◌, length}
use Rattle.round_runner.specs.Locks.{correct_nodes}
use Rattle.run_checker.specs.Rounds.{IsGathered}
use Rattle.run_checker.proofs.RoundSteps.{SteppedBelow}
use Rattle.run_checker.proofs.rounds.Round.step_all.Given as goal

abbrev pub invariant-loop-v : goal.invariant-loop-v
invariant-loop-v g l = record {
  stepped : SteppedBelow l.self.tower.now l.self.faulty.now.ids l.new_faulty.ids l.fn.config.current
      l.self.told.now.states l.v l.config.next;
  fixed : l.config ≡ record l.fn.config { next = l.config.next };
  before : l.before ≡ length (correct_nodes l.v l.self.faulty.now.ids);
  room : IsGathered l.self.tower.now l.self.faulty.now.ids l.self.told.now.states l.fn.config
      l.room;
}
