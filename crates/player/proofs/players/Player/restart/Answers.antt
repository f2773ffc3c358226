use Rattle.std.proofs.Common.{rules, ℕ, List, length, Option, None, refl}
use Rattle.std.proofs.Common.{sym, ap, ◌∙◌, subst, arith}
use Rattle.std.proofs.lemmas.List.{length-replicate, with_items_is}
use Rattle.state_codec.specs.Shapes.{Shape}
use Rattle.adversary_script.specs.Scripts.{Script, IsScript}
use Rattle.machine_runner.proofs.Firsts.{begun_era}
use Rattle.player.specs.ReadOver.{IsReadWithLayer}
use Rattle.adversary_script.specs.Eras.{faulty_of_era}
use Rattle.player.specs.Rooms.{IsReady, HasLies, AreOwn}
use Rattle.machine_runner.proofs.Rekeyed.{whole_still}
use Rattle.layer_laws.specs.Positions.{Position, IsPlayed}
use Rattle.player.specs.Runners.{Running}
use Rattle.player.proofs.Keeping.{begun_played}
use Rattle.player.proofs.Anew.{read_still, ready_still}
use Rattle.player.proofs.players.Player.restart.Goals as goal

pub invariant_of-self : goal.invariant_of-self
invariant_of-self g c =
    let machine = g.M.Machine.machine c.self.inside.machine.now in
    let layer = g.O.Overlay.layer c.self.inside.overlay in
    let script = c.self.inside.script in
    let now = c.set_key.new.self in
    let kept = c.self.invariant in
    let same = c.set_key.ensures in
    let read : IsReadWithLayer machine layer now =
    subst (λ (s : Script). IsReadWithLayer machine layer s) (sym same)
    (read_still script c.args.key machine layer kept.read) in
    let lies = with_items_is c.self.inside.room.lies c.tell_puppets.new.lies
    (c.tell_puppets.auto.lies ∙ c.deref_mut.ensures.len) in
    let ready = subst (λ (s : Script). IsReady s (record c.self.inside.room {
      noise = c.start_all.new.noise;
      out = c.start_all.new.out;
    })) (sym same) (ready_still script c.args.key c.self.inside.room c.start_all.new.noise
    c.start_all.new.out kept.ready
    (c.start_all.ensures.noise ∙ ap (λ (s : Script). s.key) same)
    (c.start_all.ensures.out ∙ ap (λ (s : Script). s.shape.depth) same)) in
    record {
      sound = kept.sound;
      read = read;
      ready = record {
        noise = ready.noise;
        heard = ready.heard;
        lies = subst (HasLies now) (sym lies) c.tell_puppets.ensures.room;
        work = ready.work;
        out = ready.out;
      };
      own = subst (AreOwn now (faulty_of_era now 0)) (sym lies) c.tell_puppets.ensures.own;
      made = subst (λ (s : Shape). g.M.Rounds.made c.self.inside.machine.now s.depth
          c.self.inside.shared) (sym c.start_all.ensures.shape) kept.made;
      shape = c.start_all.ensures.shape ∙ kept.shape ∙ sym (ap (λ (s : Script). s.shape) same);
      size = c.start_all.ensures.size;
      within = omega arith;
      here = sym (begun_era now read.whole.formed.rising 0 0 (omega arith) refl);
      eras = ap (λ (xs : List (Option ℕ)). length xs) c.begin_locks.ensures
          ∙ (let none : Option ℕ = None in
          let long = length-replicate (length now.eras) none in omega (arith, long));
    }

pub returns-clause-begun : goal.returns-clause-begun
returns-clause-begun g c = search rules

pub returns-clause-played : goal.returns-clause-played
returns-clause-played g c =
    let whole = subst (λ (r : Running _ _). IsScript r.script) c.self.view_is
    c.self.invariant.read.whole in
    subst (λ (p : Position _). IsPlayed (g.O.Overlay.kept c.args.self.now.overlay) p)
    (sym (returns-clause-begun g c))
    (begun_played _ _ _ _ _ (whole_still c.args.self.now.script c.args.key whole))
