use Rattle.std.proofs.Common.{◌≡◌, Bool, List, ◌∷◌, length, None, replicate, refl, sym, ap, ◌∙◌, arith}
use Rattle.std.specs.Vec.{with_items}
use Rattle.std.proofs.lemmas.List.{with_items_is}
use Rattle.sync_types.specs.FaultSets.{FaultIds}
use Rattle.state_codec.specs.Packs.{Pack}
use Rattle.machine_runner.specs.FirstLocked.{first_of}
use Rattle.machine_runner.specs.Locks.{is_locked}
use Rattle.machine_runner.proofs.Firsts.{begun_era}
use Rattle.machine_runner.proofs.Keeping.{locks_begin, locks_long}
use Rattle.machine_runner.proofs.Laid.{room_laid}
use Rattle.machine_runner.proofs.runners.Runner.new.Goals as goal

pub invariant_of-result : goal.invariant_of-result
invariant_of-result g c =
    let machine = g.M.Machine.machine c.args.machine.now in
    let script = c.args.script in
    let room = c.in_ok-room.ensures in
    let whole = c.requires.read.whole in
    let laid : (with_items c.in_ok-room.room.heard c.lay.new.heard).items
    ≡ c.start_all.new.states.current =
    with_items_is c.in_ok-room.room.heard c.lay.new.heard
    (c.lay.auto.heard ∙ c.deref_mut.ensures.len) ∙ c.lay.ensures in
    let shape = c.start_all.ensures.shape
    ∙ (ap (λ (p : Pack). p.shape) c.in_ok-states.ensures ∙ sym c.requires.shape) in
    let locks = c.in_ok-locks.ensures
    ∙ ap (λ (b : Bool). first_of None b 0 ∷ replicate (length script.eras) None)
    (c.is_locked-locked.ensures
    ∙ ap (λ (s : FaultIds). is_locked machine s.ids c.start_all.new.states.current)
    c.faulty-2.ensures)
    ∙ locks_begin machine script c.start_all.new.states.current whole c.start_all.ensures.states in
    record {
      sound = c.facts-2.ensures;
      read = c.requires.read;
      ready = record {
        noise = c.start_all.ensures.noise;
        heard = room_laid script c.start_all.new.states.shape c.start_all.new.states.current _
            laid shape c.start_all.ensures.size c.facts-3.ensures.current;
        work = room.work;
        out = c.start_all.ensures.out;
      };
      shape = shape;
      size = c.start_all.ensures.size;
      laid = laid;
      played = c.start_all.ensures.states;
      within = omega (arith);
      here = sym (begun_era script whole.formed.rising 0 0 (omega (arith)) refl);
      eras = ap (λ (xs : List _). length xs) locks ∙ locks_long machine script 0;
      known = locks;
    }
