use Rattle.std.proofs.Common.{◌≡◌, ◌+◌, ◌<◌, List, Bool, Option, None, length, get_or, set, sym, ap, ◌∙◌}
use Rattle.std.proofs.Common.{ℕ, subst, arith}
use Rattle.std.specs.Vec.{with_items}
use Rattle.std.proofs.lemmas.List.{with_items_is}
use Rattle.sync_types.specs.FaultSets.{FaultIds}
use Rattle.sync_types.specs.States.{State}
use Rattle.state_codec.specs.Packs.{Pack}
use Rattle.machine_runner.specs.FirstLocked.{first_of}
use Rattle.machine_runner.specs.Runners.{Running}
use Rattle.machine_runner.proofs.Keeping.{played_long, played_next, locks_go_on, locks_long}
use Rattle.machine_runner.proofs.Laid.{room_laid}
use Rattle.machine_runner.proofs.runners.Runner.round.Goals as goal

pub step_all-requires-clause-config : goal.step_all-requires-clause-config
step_all-requires-clause-config g c = record {
  shape = c.self.invariant.shape;
  size = c.self.invariant.size;
}

pub is_locked-locked-requires-clause-size : goal.is_locked-locked-requires-clause-size
is_locked-locked-requires-clause-size g c =
    let machine = g.M.Machine.machine c.self.inside.machine.now in
    let script = c.self.inside.script in
    let t = c.self.inside.at in
    let played = ap (λ (p : Pack). p.current) c.flip.ensures
    ∙ ap (λ (p : Pack). p.next) c.step_all.ensures.states
    ∙ played_next machine script t c.self.inside.states.current c.self.invariant.played in
    ap (λ (xs : List State). length xs) played ∙ played_long machine script (t + 1)
    ∙ sym (ap (λ (s : FaultIds). s.nodes) c.era_faulty-2.ensures)

pub invariant_of-self : goal.invariant_of-self
invariant_of-self g c =
    let machine = g.M.Machine.machine c.self.inside.machine.now in
    let script = c.self.inside.script in
    let t = c.self.inside.at in
    let kept = c.self.invariant in
    let left = subst (λ (r : Running _). r.at < r.script.rounds) (sym c.self.view_is) c.requires in
    let played = ap (λ (p : Pack). p.current) c.flip.ensures
    ∙ ap (λ (p : Pack). p.next) c.step_all.ensures.states
    ∙ played_next machine script t c.self.inside.states.current kept.played in
    let known = c.note_lock.ensures
    ∙ ap (λ (b : Bool). set c.self.inside.locks.items c.era_of-era.result
    (first_of (get_or c.self.inside.locks.items c.era_of-era.result None) b (t + 1)))
    c.is_locked-locked.ensures
    ∙ locks_go_on machine script c.self.inside.locks.items t c.era_of-era.result
    c.era_faulty-2.result.now c.flip.new.self.current kept.known c.era_of-era.ensures.value
    c.era_faulty-2.ensures played in
    let shape = ap (λ (p : Pack). p.shape) c.flip.ensures
    ∙ (ap (λ (p : Pack). p.shape) c.step_all.ensures.states ∙ kept.shape) in
    let size = ap (λ (xs : List State). length xs) played ∙ played_long machine script (t + 1) in
    let ready = c.step_all.ensures.room in
    let laid : (with_items c.step_all.new.room.heard c.lay.new.heard).items
    ≡ c.flip.new.self.current =
    with_items_is c.step_all.new.room.heard c.lay.new.heard
    (c.lay.auto.heard ∙ c.deref_mut.ensures.len) ∙ c.lay.ensures in
    record {
      sound = kept.sound;
      read = kept.read;
      ready = record {
        noise = ready.noise;
        heard = room_laid script c.flip.new.self.shape c.flip.new.self.current _ laid shape size
            c.facts.ensures.current;
        work = ready.work;
        out = ready.out;
      };
      shape = shape;
      size = size;
      laid = laid;
      played = played;
      within = omega (arith, left);
      here = c.era_of-era.ensures.value;
      eras = ap (λ (xs : List (Option ℕ)). length xs) known ∙ locks_long machine script (t + 1);
      known = known;
    }
