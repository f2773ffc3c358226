use Rattle.std.proofs.Common.{◌≡◌, ℕ, ◌+◌, ◌*◌, ◌<◌, ◌≤◌, List, length, Option, None, set, sym, ap}
use Rattle.std.proofs.Common.{◌∙◌, subst, arith}
use Rattle.std.proofs.lemmas.List.{length-set, get_or_default, with_items_is}
use Rattle.std.proofs.lemmas.List.FromFn.{length-map-range_with_len}
use Rattle.sync_types.specs.FaultSets.{FaultIds}
use Rattle.sync_types.specs.States.{State}
use Rattle.state_codec.specs.Packs.{Pack}
use Rattle.state_codec.specs.Shapes.{Shape}
use Rattle.counter_core.specs.Overlays.{Layer}
use Rattle.machine_runner.specs.FirstLocked.{first_of}
use Rattle.machine_runner.specs.Locks.{is_locked}
use Rattle.machine_runner.proofs.KnownLocks.{noted_is}
use Rattle.layer_laws.specs.Scenes.{Scene}
use Rattle.layer_laws.specs.Positions.{Position, IsPlayed}
use Rattle.layer_laws.specs.PlayedScenes.{state_behind, stepped_scene}
use Rattle.layer_laws.proofs.Playing.{stepped_is, scene_is, is_played_on}
use Rattle.player.specs.Counters.{machine_counter}
use Rattle.player.specs.ReadOver.{IsReadWithLayer}
use Rattle.adversary_script.specs.Eras.{faulty_of_era}
use Rattle.player.specs.Rooms.{HasLies, AreOwn}
use Rattle.player.specs.Runners.{Running}
use Rattle.player.proofs.Keeping.{advanced_is, moved}
use Rattle.player.proofs.players.Player.round_counted.Goals as goal

pub known_or_locked-locked-requires-clause-size : goal.known_or_locked-locked-requires-clause-size
known_or_locked-locked-requires-clause-size g c =
    let script = c.self.inside.script in
    let behind : ℕ → State = state_behind (machine_counter (g.M.Machine.machine
    c.self.inside.machine.now)) script (g.O.Overlay.layer c.begin.new.self) c.self.inside.at
    c.self.inside.states.current (g.O.Overlay.kept c.begin.new.self) in
    ap (λ (p : Pack). length p.current) c.flip.ensures
    ∙ ap (λ (p : Pack). length p.next) c.step_all.ensures.states
    ∙ length-map-range_with_len behind 0 script.nodes
    ∙ sym (ap (λ (s : FaultIds). s.nodes) c.era_faulty-faulty.ensures)

pub step_all-requires-clause-own : goal.step_all-requires-clause-own
step_all-requires-clause-own g c =
    subst (λ (s : FaultIds). AreOwn c.self.inside.script s.ids c.self.inside.room.lies.items)
    (sym c.era_faulty.ensures) c.self.invariant.own

pub tell_new_puppets-requires-clause-config : goal.tell_new_puppets-requires-clause-config
tell_new_puppets-requires-clause-config g c =
    let script = c.self.inside.script in
    let behind : ℕ → State = state_behind (machine_counter (g.M.Machine.machine
    c.self.inside.machine.now)) script (g.O.Overlay.layer c.begin.new.self) c.self.inside.at
    c.self.inside.states.current (g.O.Overlay.kept c.begin.new.self) in
    record {
      shape = ap (λ (p : Pack). p.shape) c.flip.ensures
          ∙ ap (λ (p : Pack). p.shape) c.step_all.ensures.states ∙ c.self.invariant.shape;
      size = ap (λ (p : Pack). length p.current) c.flip.ensures
          ∙ ap (λ (p : Pack). length p.next) c.step_all.ensures.states
          ∙ length-map-range_with_len behind 0 script.nodes;
    }

pub tell_new_puppets-requires-clause-own : goal.tell_new_puppets-requires-clause-own
tell_new_puppets-requires-clause-own g c =
    subst (AreOwn c.self.inside.script (faulty_of_era c.self.inside.script c.self.inside.era))
    (sym c.deref_mut.ensures.value)
    (subst (λ (s : FaultIds). AreOwn c.self.inside.script s.ids c.step_all.new.room.lies.items)
    c.era_faulty.ensures c.step_all.ensures.own)

pub invariant_of-self : goal.invariant_of-self
invariant_of-self g c =
    let machine = g.M.Machine.machine c.self.inside.machine.now in
    let script = c.self.inside.script in
    let kept = c.self.invariant in
    let left = subst (λ (r : Running _ _). r.at < r.script.rounds) (sym c.self.view_is) c.requires in
    let behind : ℕ → State = state_behind (machine_counter machine) script
    (g.O.Overlay.layer c.begin.new.self) c.self.inside.at c.self.inside.states.current
    (g.O.Overlay.kept c.begin.new.self) in
    let shape = ap (λ (p : Pack). p.shape) c.flip.ensures
    ∙ ap (λ (p : Pack). p.shape) c.step_all.ensures.states in
    let lies = with_items_is c.step_all.new.room.lies c.tell_new_puppets.new.lies
    (c.tell_new_puppets.auto.lies ∙ c.deref_mut.ensures.len) in
    let ready = c.step_all.ensures.ready in
    record {
      sound = kept.sound;
      read = subst (λ (l : Layer _). IsReadWithLayer machine l script)
          (sym (c.step_all.ensures.layer ∙ c.begin.ensures.layer)) kept.read;
      ready = record {
        noise = ready.noise;
        heard = ready.heard;
        lies = subst (HasLies script) (sym lies) c.tell_new_puppets.ensures.room;
        work = ready.work;
        out = ready.out;
      };
      own = subst (AreOwn script (faulty_of_era script c.era_of-era.result)) (sym lies)
          c.tell_new_puppets.ensures.own;
      made = subst (λ (s : Shape). g.M.Rounds.made c.self.inside.machine.now s.depth
          c.step_all.new.shared) (sym shape) c.step_all.ensures.made;
      shape = shape ∙ kept.shape;
      size = ap (λ (p : Pack). length p.current) c.flip.ensures
          ∙ ap (λ (p : Pack). length p.next) c.step_all.ensures.states
          ∙ length-map-range_with_len behind 0 script.nodes;
      within = omega (arith, left);
      here = c.era_of-era.ensures.value;
      eras = ap (λ (xs : List (Option ℕ)). length xs) c.note_lock.ensures
          ∙ length-set c.self.inside.locks.items c.era_of-era.result _ ∙ kept.eras;
    }

pub returns-clause-advances : goal.returns-clause-advances
returns-clause-advances g c =
    let machine = g.M.Machine.machine c.self.inside.machine.now in
    let m = machine_counter machine in
    let script = c.self.inside.script in
    let t : ℕ = c.self.inside.at in
    let config = c.self.inside.states.current in
    let layer = g.O.Overlay.layer c.self.inside.overlay in
    let begun = g.O.Overlay.layer c.begin.new.self in
    let kept_begun = g.O.Overlay.kept c.begin.new.self in
    let scene = stepped_is m script layer begun t config (g.O.Overlay.kept c.self.inside.overlay)
    kept_begun c.begin.ensures.layer c.begin.ensures.kept in
    let states : c.flip.new.self.current
    ≡ (stepped_scene m script begun t config kept_begun).states =
    ap (λ (p : Pack). p.current) c.flip.ensures
    ∙ ap (λ (p : Pack). p.next) c.step_all.ensures.states in
    let era : ℕ = c.era_of-era.result in
    let locks : List (Option ℕ) = c.self.inside.locks.items in
    let old : Position _ = record {
      counter = m;
      locked = is_locked machine;
      script = script;
      layer = layer;
      at = t;
      scene = record { states = config; kept = g.O.Overlay.kept c.self.inside.overlay };
      locks = c.self.inside.locks.items;
    } in
    let next : Scene _ = record {
      states = c.flip.new.self.current;
      kept = g.O.Overlay.kept c.step_all.new.overlay;
    } in
    moved g.M.Machine.machine g.O.Overlay.layer g.O.Overlay.kept _ c.args.self.now _
    c.self.view_is
    (advanced_is old (g.O.Overlay.layer c.step_all.new.overlay) next
    c.note_lock.new.locks.items
    (c.step_all.ensures.layer ∙ c.begin.ensures.layer)
    (scene_is (states ∙ ap (λ (s : Scene _). s.states) scene)
    (c.step_all.ensures.kept ∙ ap (λ (s : Scene _). s.kept) scene))
    (c.note_lock.ensures
    ∙ ap (set locks era) (subst (λ (known : Option ℕ).
    first_of known c.known_or_locked-locked.result (t + 1) ≡ first_of known
    (is_locked machine (c.era_faulty-faulty.result.now).ids c.flip.new.self.current) (t + 1))
    (c.index.ensures ∙ get_or_default locks era c.index.result.now None
    (omega (arith, c.era_of-era.ensures.most, c.self.invariant.eras)))
    (c.known_or_locked-locked.ensures (t + 1)))
    ∙ noted_is (is_locked machine) script locks (t + 1)
    c.flip.new.self.current c.era_of-era.result (c.era_faulty-faulty.result.now).ids
    c.era_of-era.ensures.value (ap (λ (s : FaultIds). s.ids) c.era_faulty-faulty.ensures)))

pub returns-clause-played : goal.returns-clause-played
returns-clause-played g c = λ began is.
    subst (λ (p : Position _). IsPlayed began p) (sym (returns-clause-advances g c))
    (is_played_on began _ is)

pub returns-clause-cost : goal.returns-clause-cost
returns-clause-cost g c =
    subst (λ (r : Running _ _). c.step_all.new.steps ≤ c.args.steps.now
    + g.M.Rounds.cost r.machine * (g.M.Machine.machine r.machine).nodes
    * ((g.M.Machine.machine r.machine).faults + 1)) c.self.view_is c.step_all.ensures.cost
