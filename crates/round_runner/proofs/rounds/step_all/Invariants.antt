use Rattle.std.proofs.Common.{◌≡◌, ◌+◌, ◌-◌, ◌*◌, ◌≤◌, length}
use Rattle.construction.specs.Plans.{plan_nodes, plan_depth}
use Rattle.plan_laws.specs.PlanMeaning.{plan_meaning}
use Rattle.adversary_script.specs.Eras.{faulty_at}
use Rattle.round_runner.specs.Turns.{IsGathered}
use Rattle.layer_laws.proofs.Stepped.{SteppedBelow}
use Rattle.round_runner.proofs.rounds.step_all.Given as goal

abbrev pub invariant-loop-v : goal.invariant-loop-v
invariant-loop-v g l =
    let plan = l.round.tower.now in
    let script = l.round.script.now in
    record {
      stepped : SteppedBelow (plan_meaning plan) script (g.O.Overlay.layer l.fn.overlay) l.round.t
          l.fn.states.current (g.O.Overlay.kept l.fn.overlay) l.v l.states.next
          (g.O.Overlay.layer l.overlay) (g.O.Overlay.kept l.overlay);
      fixed : l.states ≡ record l.fn.states { next = l.states.next };
      gathered : IsGathered l.round (g.O.Overlay.layer l.fn.overlay) l.fn.states l.room;
      cost : l.steps ≤ l.fn.steps
          + 3 * plan_depth plan * (plan_nodes plan - length (faulty_at script l.round.t))
          + l.v * (3 * plan_depth plan * length (faulty_at script l.round.t));
    }
