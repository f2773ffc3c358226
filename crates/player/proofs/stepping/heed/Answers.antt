use Rattle.std.proofs.Common.{◌≡◌, ℕ, ◌<◌, List, set, refl, sym, ap, ◌∙◌, subst, arith}
use Rattle.std.proofs.lemmas.List.{with_items_is}
use Rattle.sync_types.specs.States.{State}
use Rattle.construction.specs.Steps.{state_of}
use Rattle.counter_core.specs.Overlays.{MayHear}
use Rattle.machine_runner.specs.Hearing.{HasRoom, AreHonest}
use Rattle.player.specs.Rooms.{IsLaid}
use Rattle.player.proofs.CanTurns.{can_turn}
use Rattle.player.proofs.LayerHears.{own_room, own_laid, own_stands}
use Rattle.player.proofs.LayerSteps.{may_hear_of, shown_below}
use Rattle.player.proofs.stepping.heed.Goals as goal

pub relevant_liars-requires : goal.relevant_liars-requires
relevant_liars-requires g c =
    let turn = c.args.turn.now in
    let script = turn.round.now.script.now in
    let t : ℕ = turn.round.now.t in
    let config = turn.states.now.current in
    let machine = g.M.Machine.machine c.args.machine.now in
    let layer = g.O.Overlay.layer c.args.overlay.now in
    let kept = g.O.Overlay.kept c.args.overlay.now in
    let can = can_turn machine layer turn c.facts.ensures c.requires.read
    (g.met.O.Overlay.keeps_range c.args.overlay.now) c.facts-2.ensures.current in
    let nodes = c.requires.read.right.nodes in
    let before = c.requires.begun.ready.heard in
    let laid = own_laid machine layer script t turn.v config can kept nodes
    c.args.room.now.heard.items (state_of config turn.v) refl before in
    let room = own_room machine layer script t turn.v config can kept nodes
    c.args.room.now.heard.items (state_of config turn.v) refl before in
    let items : c.of.result ≡ set c.args.room.now.heard.items turn.v (state_of config turn.v) =
    c.of.ensures ∙ c.deref.ensures.value
    ∙ with_items_is c.args.room.now.heard c.lay_itself.new.heard
    (c.lay_itself.auto.heard ∙ c.deref_mut.ensures.len) ∙ c.lay_itself.ensures
    ∙ ap (λ (xs : List State). set xs turn.v (state_of config turn.v)) c.deref_mut.ensures.value in
    record {
      step = λ some.
          subst (λ (o : ℕ). MayHear layer turn.v o c.of.result)
          (sym c.output_in-output.ensures)
          (subst (MayHear layer turn.v (machine.shows turn.v (state_of config turn.v))) (sym items)
          (may_hear_of machine layer script t turn.v config can kept
          (set c.args.room.now.heard.items turn.v (state_of config turn.v)) (room.size ∙ nodes) room.deep
          (laid (c.requires.begun.laid some)).values (machine.shows turn.v (state_of config turn.v))
          (shown_below machine layer script t turn.v config can kept) some));
    }

pub returns-clause-begun : goal.returns-clause-begun
returns-clause-begun g c =
    let turn = c.args.turn.now in
    let script = turn.round.now.script.now in
    let t : ℕ = turn.round.now.t in
    let config = turn.states.now.current in
    let machine = g.M.Machine.machine c.args.machine.now in
    let layer = g.O.Overlay.layer c.args.overlay.now in
    let kept = g.O.Overlay.kept c.args.overlay.now in
    let can = can_turn machine layer turn c.facts.ensures c.requires.read
    (g.met.O.Overlay.keeps_range c.args.overlay.now) c.facts-2.ensures.current in
    let nodes = c.requires.read.right.nodes in
    let begun = c.requires.begun in
    let items = with_items_is c.args.room.now.heard c.lay_itself.new.heard
    (c.lay_itself.auto.heard ∙ c.deref_mut.ensures.len) ∙ c.lay_itself.ensures
    ∙ ap (λ (xs : List State). set xs turn.v (state_of config turn.v)) c.deref_mut.ensures.value in
    record {
      ready = record {
        noise = begun.ready.noise;
        heard = subst (HasRoom script) (sym items) (own_room machine layer script t turn.v config
            can kept nodes c.args.room.now.heard.items (state_of config turn.v) refl
            begun.ready.heard);
        lies = begun.ready.lies;
        work = begun.ready.work;
        out = begun.ready.out;
      };
      own = begun.own;
      laid = λ some. subst (IsLaid layer script t config) (sym items)
          (own_laid machine layer script t turn.v config can kept nodes
          c.args.room.now.heard.items (state_of config turn.v) refl begun.ready.heard
          (begun.laid some));
    }

pub lay_itself-requires-clause-honest : goal.lay_itself-requires-clause-honest
lay_itself-requires-clause-honest g c =
    let turn = c.args.turn.now in
    let script = turn.round.now.script.now in
    let some : 0 < (g.O.Overlay.layer c.args.overlay.now).extra =
    omega (arith, c.if-extra-eq0.false, c.extra.ensures) in
    subst (AreHonest script turn.round.now.t turn.states.now.current)
    (sym c.deref_mut.ensures.value) ((c.requires.begun.laid some).honest)

pub returns-clause-own : goal.returns-clause-own
returns-clause-own g c =
    let turn = c.args.turn.now in
    let script = turn.round.now.script.now in
    let t : ℕ = turn.round.now.t in
    let config = turn.states.now.current in
    let machine = g.M.Machine.machine c.args.machine.now in
    let layer = g.O.Overlay.layer c.args.overlay.now in
    let kept = g.O.Overlay.kept c.args.overlay.now in
    let can = can_turn machine layer turn c.facts.ensures c.requires.read
    (g.met.O.Overlay.keeps_range c.args.overlay.now) c.facts-2.ensures.current in
    let items = with_items_is c.args.room.now.heard c.lay_itself.new.heard
    (c.lay_itself.auto.heard ∙ c.deref_mut.ensures.len) ∙ c.lay_itself.ensures
    ∙ ap (λ (xs : List State). set xs turn.v (state_of config turn.v)) c.deref_mut.ensures.value in
    λ some. ap (λ (xs : List State). state_of xs turn.v) items
    ∙ own_stands machine layer script t turn.v config can kept c.requires.read.right.nodes
    c.args.room.now.heard.items (state_of config turn.v) refl c.requires.begun.ready.heard
