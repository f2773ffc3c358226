use Rattle.std.proofs.Common.{◌∙◌}
use Rattle.std.proofs.lemmas.List.{with_items_is}
use Rattle.round_runner.proofs.LayerSteps.{can_turn, laid_may_hear}
use Rattle.round_runner.proofs.stepping.heed.Goals as goal

pub relevant_liars-requires : goal.relevant_liars-requires
relevant_liars-requires g c =
    let turn = c.args.turn.now in
    let config = turn.states.now.current in
    let layer = g.O.Overlay.layer c.args.overlay.now in
    let can = can_turn layer turn c.args.room.now c.facts-2.ensures c.requires.gathered.set
    (g.met.O.Overlay.keeps_range c.args.overlay.now) (g.met.O.Overlay.deaf c.args.overlay.now)
    c.facts.ensures.sound c.facts.ensures.current in
    let long = c.lay_itself.auto.heard ∙ c.deref_mut.ensures.len in
    let items = with_items_is c.args.room.now.heard c.lay_itself.new.heard long in
    record {
      step = λ some. laid_may_hear turn.round.now.tower.now turn.round.now.script.now layer
          (g.O.Overlay.kept c.args.overlay.now) turn.round.now.t turn.v config can
          _ c.lay_itself.new.heard (c.of.ensures ∙ (c.deref.ensures.value ∙ items))
          c.args.output c.requires.output
          c.lay_itself.ensures.room.size some c.lay_itself.ensures.laid.some;
    }
