use Rattle.std.proofs.Common.{rules, ℕ, List, length, Option, refl, sym, ap, ◌∙◌, subst, arith}
use Rattle.std.proofs.lemmas.List.{with_items_is}
use Rattle.state_codec.specs.Packs.{Pack}
use Rattle.state_codec.specs.Shapes.{Shape}
use Rattle.machine_runner.specs.Locks.{is_locked}
use Rattle.machine_runner.proofs.Firsts.{begun_era}
use Rattle.machine_runner.proofs.KnownLocks.{begun_long}
use Rattle.layer_laws.specs.Positions.{Position, IsPlayed}
use Rattle.player.specs.Counters.{machine_counter}
use Rattle.adversary_script.specs.Eras.{faulty_of_era}
use Rattle.player.specs.Rooms.{HasLies, AreOwn}
use Rattle.player.proofs.Keeping.{begun_played}
use Rattle.player.proofs.players.Player.new.Goals as goal

pub invariant_of-result : goal.invariant_of-result
invariant_of-result g c =
    let machine = g.M.Machine.machine c.args.machine.now in
    let script = c.args.script in
    let config = c.start_all.new.states.current in
    let room = c.in_ok-room.ensures in
    let rising = c.requires.read.whole.formed.rising in
    let lies = with_items_is c.in_ok-room.room.lies c.tell_puppets.new.lies
    (c.tell_puppets.auto.lies ∙ c.deref_mut.ensures.len) in
    let kept = c.start_all.ensures.shape ∙ ap (λ (p : Pack). p.shape) c.in_ok-states.ensures in
    record {
      sound = c.facts-2.ensures;
      read = c.requires.read;
      ready = record {
        noise = c.start_all.ensures.noise;
        heard = room.heard;
        lies = subst (HasLies script) (sym lies) c.tell_puppets.ensures.room;
        work = room.work;
        out = c.start_all.ensures.out;
      };
      own = subst (AreOwn script (faulty_of_era script 0)) (sym lies) c.tell_puppets.ensures.own;
      made = subst (λ (d : ℕ). g.M.Rounds.made c.args.machine.now d c.in_ok-shared.shared)
          (c.depth.ensures ∙ ap (λ (s : Shape). s.depth) (sym kept)) c.in_ok-shared.ensures;
      shape = kept ∙ sym c.requires.shape;
      size = c.start_all.ensures.size;
      within = omega arith;
      here = sym (begun_era script rising 0 0 (omega arith) refl);
      eras = ap (λ (xs : List (Option _)). length xs) c.in_ok-locks.ensures
          ∙ begun_long (is_locked machine) script config;
    }

pub returns-clause-begun : goal.returns-clause-begun
returns-clause-begun g c = search rules

pub returns-clause-played : goal.returns-clause-played
returns-clause-played g c =
    let machine = g.M.Machine.machine c.args.machine.now in
    subst (λ (p : Position _). IsPlayed (g.O.Overlay.kept c.args.overlay) p)
    (sym (returns-clause-begun g c))
    (begun_played (machine_counter machine) (is_locked machine) c.args.script
    (g.O.Overlay.layer c.args.overlay) (g.O.Overlay.kept c.args.overlay) c.requires.read.whole)
