use Rattle.std.proofs.Common.{◌≡◌, ◌+◌, ◌-◌, ◌*◌, ◌≤◌, length}
use Rattle.layer_laws.proofs.Stepped.{SteppedBelow}
use Rattle.player.specs.Counters.{machine_counter}
use Rattle.player.specs.Rooms.{IsBegun, sent_of}
use Rattle.player.proofs.stepping.step_all.Given as goal

abbrev pub invariant-loop-v : goal.invariant-loop-v
invariant-loop-v g l =
    let machine = g.M.Machine.machine l.machine in
    let script = l.round.script.now in
    let ids = l.round.faulty.now.ids in
    record {
      stepped : SteppedBelow (machine_counter machine) script (g.O.Overlay.layer l.fn.overlay)
          l.round.t l.fn.states.current (g.O.Overlay.kept l.fn.overlay) l.v l.states.next
          (g.O.Overlay.layer l.overlay) (g.O.Overlay.kept l.overlay);
      fixed : l.states ≡ record l.fn.states { next = l.states.next };
      begun : IsBegun (g.O.Overlay.layer l.fn.overlay) script l.round.t ids l.fn.states.current
          l.room;
      cost : l.steps ≤ l.fn.steps + g.M.Rounds.cost l.machine * (machine.nodes - length ids)
          + l.v * (g.M.Rounds.cost l.machine * length ids);
      stands : g.M.Rounds.stands l.machine (sent_of l.fn.states ids) l.shared;
    }
