use Rattle.std.proofs.Common.{◌≡◌}
use Rattle.machine_runner.specs.Played.{state_after}
use Rattle.machine_runner.specs.Hearing.{AreHonest}
use Rattle.machine_runner.specs.Rooms.{IsReady}
use Rattle.machine_runner.proofs.Filled.{FilledBelow}
use Rattle.machine_runner.proofs.stepping.Round.step_all.Given as goal

abbrev pub invariant-loop-v : goal.invariant-loop-v
invariant-loop-v g l = record {
  filled : FilledBelow (state_after (g.M.Machine.machine l.machine) l.self.script.now l.self.t
      l.fn.states.current) l.self.script.now.nodes l.v l.states.next;
  fixed : l.states ≡ record l.fn.states { next = l.states.next };
  ready : IsReady l.self.script.now l.room;
  honest : AreHonest l.self.script.now l.self.t l.fn.states.current l.room.heard.items;
}
