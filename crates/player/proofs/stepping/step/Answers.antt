use Rattle.std.proofs.Common.{◌≡◌, ℕ, ◌+◌, ◌<◌, sym, ap, ◌∙◌, subst, arith}
use Rattle.std.specs.Prelude.{unwrap_or}
use Rattle.construction.specs.Steps.{state_of}
use Rattle.state_codec.specs.Shapes.{fields_at}
use Rattle.state_codec.specs.Ranges.{InRange}
use Rattle.counter_core.specs.Heeding.{DependsOnlyOn}
use Rattle.counter_core.specs.Overlays.{after, layered}
use Rattle.counter_core.specs.Working.{IsWorkFor}
use Rattle.adversary_script.specs.Rounds.{heard_at}
use Rattle.adversary_script.specs.Lookup.{hit_at}
use Rattle.machine_runner.specs.Hearing.{HasRoom}
use Rattle.rounds.proofs.Hearing.{depth_of_node}
use Rattle.layer_laws.specs.PlayedScenes.{layer_step, new_state}
use Rattle.player.specs.Counters.{machine_counter}
use Rattle.player.specs.Rooms.{IsBegun, IsLaid, HasLies, AreOwn}
use Rattle.player.specs.declared.stepping.Room.{Room}
use Rattle.player.proofs.CanTurns.{can_turn}
use Rattle.player.proofs.LayerSteps.{front_at, out_is, out_long, new_in_range}
use Rattle.player.proofs.stepping.step.Goals as goal

pub step_machine-requires-clause-depth : goal.step_machine-requires-clause-depth
step_machine-requires-clause-depth g c =
    let depth = c.requires.read.shape.depth in omega (arith, depth)

pub step_machine-requires-clause-fronts : goal.step_machine-requires-clause-fronts
step_machine-requires-clause-fronts g c =
    let turn = c.args.turn.now in
    let script = turn.round.now.script.now in
    let t : ℕ = turn.round.now.t in
    let config = turn.states.now.current in
    let ids = turn.round.now.faulty.now.ids in
    let machine = g.M.Machine.machine c.args.machine.now in
    let layer = g.O.Overlay.layer c.args.overlay.now in
    let kept = g.O.Overlay.kept c.args.overlay.now in
    let can = can_turn machine layer turn c.facts.ensures c.requires.read
    (g.met.O.Overlay.keeps_range c.args.overlay.now) c.facts-2.ensures.current in
    front_at machine layer script t turn.v config can kept

pub step_layer-requires-clause-begun : goal.step_layer-requires-clause-begun
step_layer-requires-clause-begun g c =
    let turn = c.args.turn.now in
    let script = turn.round.now.script.now in
    let t : ℕ = turn.round.now.t in
    let config = turn.states.now.current in
    let ids = turn.round.now.faulty.now.ids in
    let machine = g.M.Machine.machine c.args.machine.now in
    let layer = g.O.Overlay.layer c.args.overlay.now in
    let kept = g.O.Overlay.kept c.args.overlay.now in
    let can = can_turn machine layer turn c.facts.ensures c.requires.read
    (g.met.O.Overlay.keeps_range c.args.overlay.now) c.facts-2.ensures.current in
    let heed = c.heed-layers.ensures.begun in
    let same = c.step_machine.ensures.same in
    let begun : IsBegun layer script t ids config c.step_machine.new.room = record {
      ready = record {
        noise = c.step_machine.ensures.noise ∙ heed.ready.noise;
        heard = subst (λ (r : Room). HasRoom script r.heard.items) (sym same) heed.ready.heard;
        lies = c.step_machine.ensures.lies;
        work = subst (λ (r : Room). IsWorkFor script.nodes r.work) (sym same) heed.ready.work;
        out = out_long machine layer script t turn.v config can kept
            c.heed-layers.new.room.out c.step_machine.new.room.out heed.ready.out
            c.step_machine.ensures.out;
      };
      own = c.step_machine.ensures.own;
      laid = subst (λ (r : Room). 0 < layer.extra → IsLaid layer script t config r.heard.items)
          (sym same) heed.laid;
    } in
    begun

pub step_layer-requires-clause-own : goal.step_layer-requires-clause-own
step_layer-requires-clause-own g c =
    subst (λ (r : Room). 0 < (g.O.Overlay.layer c.args.overlay.now).extra
    → state_of r.heard.items c.args.turn.now.v
    ≡ state_of c.args.turn.now.states.now.current c.args.turn.now.v)
    (sym c.step_machine.ensures.same) c.heed-layers.ensures.own

pub step_layer-requires-clause-enough : goal.step_layer-requires-clause-enough
step_layer-requires-clause-enough g c =
    let layer = g.O.Overlay.layer c.args.overlay.now in
    let turn = c.args.turn.now in
    subst (λ (r : Room). 0 < layer.extra → DependsOnlyOn (after layer
    (g.O.Overlay.kept c.args.overlay.now) turn.v ((g.M.Machine.machine c.args.machine.now).shows
    turn.v (state_of turn.states.now.current turn.v))) turn.round.now.faulty.now.ids turn.v
    r.heard.items c.heed-layers.result.0 c.heed-layers.result.1)
    (sym c.step_machine.ensures.same) c.heed-layers.ensures.enough

pub put_at-requires : goal.put_at-requires
put_at-requires g c =
    let turn = c.args.turn.now in
    let script = turn.round.now.script.now in
    let t : ℕ = turn.round.now.t in
    let config = turn.states.now.current in
    let ids = turn.round.now.faulty.now.ids in
    let machine = g.M.Machine.machine c.args.machine.now in
    let layer = g.O.Overlay.layer c.args.overlay.now in
    let kept = g.O.Overlay.kept c.args.overlay.now in
    let can = can_turn machine layer turn c.facts.ensures c.requires.read
    (g.met.O.Overlay.keeps_range c.args.overlay.now) c.facts-2.ensures.current in
    let heed = c.heed-layers.ensures.begun in
    let out : c.step_layer.new.room.out
    ≡ new_state (machine_counter machine) layer kept turn.v (heard_at script t config turn.v) =
    c.step_layer.ensures.out
    ∙ ap (layered layer (layer_step (machine_counter machine) layer kept turn.v
    (heard_at script t config turn.v)).registers) c.step_machine.ensures.out
    ∙ out_is machine layer script t turn.v config can kept c.heed-layers.new.room.out
    heed.ready.out in
    let range = subst (InRange (fields_at script.shape turn.v)) (sym out)
    (new_in_range machine layer script t turn.v config can kept) in
    depth_of_node script.shape turn.v _ range

pub returns : goal.returns
returns g c =
    let turn = c.args.turn.now in
    let script = turn.round.now.script.now in
    let t : ℕ = turn.round.now.t in
    let config = turn.states.now.current in
    let ids = turn.round.now.faulty.now.ids in
    let machine = g.M.Machine.machine c.args.machine.now in
    let layer = g.O.Overlay.layer c.args.overlay.now in
    let kept = g.O.Overlay.kept c.args.overlay.now in
    let can = can_turn machine layer turn c.facts.ensures c.requires.read
    (g.met.O.Overlay.keeps_range c.args.overlay.now) c.facts-2.ensures.current in
    let heed = c.heed-layers.ensures.begun in
    let same = c.step_machine.ensures.same in
    let begun : IsBegun layer script t ids config c.step_machine.new.room = record {
      ready = record {
        noise = c.step_machine.ensures.noise ∙ heed.ready.noise;
        heard = subst (λ (r : Room). HasRoom script r.heard.items) (sym same) heed.ready.heard;
        lies = c.step_machine.ensures.lies;
        work = subst (λ (r : Room). IsWorkFor script.nodes r.work) (sym same) heed.ready.work;
        out = out_long machine layer script t turn.v config can kept
            c.heed-layers.new.room.out c.step_machine.new.room.out heed.ready.out
            c.step_machine.ensures.out;
      };
      own = c.step_machine.ensures.own;
      laid = subst (λ (r : Room). 0 < layer.extra → IsLaid layer script t config r.heard.items)
          (sym same) heed.laid;
    } in
    let out : c.step_layer.new.room.out
    ≡ new_state (machine_counter machine) layer kept turn.v (heard_at script t config turn.v) =
    c.step_layer.ensures.out
    ∙ ap (layered layer (layer_step (machine_counter machine) layer kept turn.v
    (heard_at script t config turn.v)).registers) c.step_machine.ensures.out
    ∙ out_is machine layer script t turn.v config can kept c.heed-layers.new.room.out
    heed.ready.out in
    let range = subst (InRange (fields_at script.shape turn.v)) (sym out)
    (new_in_range machine layer script t turn.v config can kept) in
    let put = c.put_at.ensures.range range in
    let layered_same = c.step_layer.ensures.same in
    record {
      state = c.put_at.ensures.state ∙ ap (unwrap_or (hit_at script (t + 1) turn.v)) out;
      range = put;
      layer = c.step_layer.ensures.layer;
      kept = c.step_layer.ensures.kept;
      begun = record {
        ready = record {
          noise = ap (λ (r : Room). r.noise) layered_same ∙ begun.ready.noise;
          heard = c.step_layer.ensures.heard;
          lies = subst (λ (r : Room). HasLies script r.lies.items) (sym layered_same)
              begun.ready.lies;
          work = c.step_layer.ensures.work;
          out = depth_of_node script.shape turn.v _ put;
        };
        own = subst (λ (r : Room). AreOwn script ids r.lies.items) (sym layered_same) begun.own;
        laid = c.step_layer.ensures.laid;
      };
      stands = c.step_machine.ensures.stands;
      cost = c.step_machine.ensures.cost;
    }
