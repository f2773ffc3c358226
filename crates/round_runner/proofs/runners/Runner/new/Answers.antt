use Rattle.std.proofs.Common.{ℕ, Bool, List, ◌∷◌, length, Option, None, replicate, refl, sym, ap}
use Rattle.std.proofs.Common.{ap₂}
use Rattle.std.proofs.Common.{◌∙◌, subst, arith}
use Rattle.std.proofs.lemmas.List.{length-replicate}
use Rattle.sync_types.specs.FaultSets.{FaultIds}
use Rattle.sync_types.specs.States.{State, zero_state}
use Rattle.state_codec.specs.Packs.{Pack}
use Rattle.state_codec.specs.Shapes.{IsShape}
use Rattle.machine_runner.specs.FirstLocked.{first_of}
use Rattle.machine_runner.proofs.Firsts.{begun_era}
use Rattle.machine_runner.proofs.KnownLocks.{begun_long}
use Rattle.round_runner.specs.Locks.{is_locked}
use Rattle.round_runner.specs.Runners.{Running, IsPlaying}
use Rattle.round_runner.proofs.Fitting.{layer_fits}
use Rattle.round_runner.proofs.Playing.{begins}
use Rattle.round_runner.proofs.runners.Runner.new.Goals as goal

pub room_for-requires-clause-deep : goal.room_for-requires-clause-deep
room_for-requires-clause-deep g c =
    let fits = layer_fits c.args.tower (g.O.Overlay.layer c.args.overlay) c.args.script.shape
    c.tell.ensures c.requires.plan.shape
    (subst IsShape (sym c.requires.shape) c.facts.ensures) c.requires.plan.over in
    let deep = fits.depth in omega (arith, deep)

pub start_all-requires-clause-config : goal.start_all-requires-clause-config
start_all-requires-clause-config g c = record {
  shape = ap (λ (p : Pack). p.shape) c.in_ok-states.ensures ∙ sym c.requires.shape;
  size = ap (λ (p : Pack). length p.current) c.in_ok-states.ensures
      ∙ length-replicate c.nodes.result (zero_state c.args.shape.depth)
      ∙ c.nodes.ensures ∙ ap (λ (s : FaultIds). s.nodes) c.faulty.ensures;
}

pub is_locked-locked-requires-clause-nodes : goal.is_locked-locked-requires-clause-nodes
is_locked-locked-requires-clause-nodes g c =
    ap (λ (s : FaultIds). s.nodes) c.faulty-2.ensures ∙ c.requires.plan.nodes

pub is_locked-locked-requires-clause-size : goal.is_locked-locked-requires-clause-size
is_locked-locked-requires-clause-size g c =
    c.start_all.ensures.size ∙ sym (ap (λ (s : FaultIds). s.nodes) c.faulty-2.ensures)

pub invariant_of-result : goal.invariant_of-result
invariant_of-result g c =
    let room = c.in_ok-room.ensures in
    let sound = subst IsShape (sym c.requires.shape) c.facts.ensures in
    record {
      right = c.requires.plan;
      sound = sound;
      whole = c.rounds-rounds.ensures.script;
      accepted = c.tell.ensures;
      fits = layer_fits c.args.tower (g.O.Overlay.layer c.args.overlay) c.args.script.shape
          c.tell.ensures c.requires.plan.shape sound c.requires.plan.over;
      ready = record {
        noise = c.start_all.ensures.noise;
        heard = room.heard;
        work = room.work;
        step = record {
          lies = room.step.lies;
          shared = room.step.shared;
          out = c.start_all.ensures.out;
        };
      };
      shape = c.start_all.ensures.shape
          ∙ (ap (λ (p : Pack). p.shape) c.in_ok-states.ensures ∙ sym c.requires.shape);
      size = c.start_all.ensures.size;
      within = omega (arith);
      here = sym (begun_era c.args.script c.rounds-rounds.ensures.script.formed.rising 0 0
          (omega (arith)) refl);
      eras = ap (λ (locks : List (Option ℕ)). length locks) c.in_ok-locks.ensures
          ∙ begun_long (is_locked c.args.tower) c.args.script c.start_all.new.states.current;
    }

pub returns-clause-begun : goal.returns-clause-begun
returns-clause-begun g c =
    let states = c.start_all.ensures.states in
    let test = c.is_locked-locked.ensures
    ∙ ap₂ (is_locked c.args.tower) (ap (λ (s : FaultIds). s.ids) c.faulty-2.ensures) states in
    let locks = c.in_ok-locks.ensures
    ∙ ap (λ (b : Bool). first_of None b 0 ∷ replicate (length c.args.script.eras) None) test in
    ap₂ (λ (states : List State) (locks : List (Option ℕ)). let r : Running _ =
    record {
      plan = c.args.tower;
      script = c.args.script;
      overlay = c.args.overlay;
      at = 0;
      states = states;
      locks = locks;
    } in r) states locks

pub returns-clause-played : goal.returns-clause-played
returns-clause-played g c = subst (IsPlaying g.O.Overlay.layer g.O.Overlay.kept
    (g.O.Overlay.kept c.args.overlay)) (sym (returns-clause-begun g c))
    (begins g.O.Overlay.layer g.O.Overlay.kept c.args.tower c.args.script c.args.overlay
    c.rounds-rounds.ensures.script)
