use Rattle.std.proofs.Common.{ℕ, ap, ◌∙◌, rules}
use Rattle.std.specs.Prelude.{slice_set}
use Rattle.counter_core.specs.Overlays.{layered}
use Rattle.machine_runner.proofs.Keeping.{as_roomy}
use Rattle.round_runner.proofs.LayerSteps.{can_turn, can_step, step_is_that}
use Rattle.round_runner.proofs.stepping.step_layer.Goals as goal

pub advance-requires-clause-step : goal.advance-requires-clause-step
advance-requires-clause-step g c =
    let turn = c.args.turn.now in
    let plan = turn.round.now.tower.now in
    let script = turn.round.now.script.now in
    let t : ℕ = turn.round.now.t in
    let config = turn.states.now.current in
    let layer = g.O.Overlay.layer c.args.overlay.now in
    let kept = g.O.Overlay.kept c.args.overlay.now in
    let can = can_turn layer turn c.args.room.now c.facts-2.ensures c.requires.set
    (g.met.O.Overlay.keeps_range c.args.overlay.now) (g.met.O.Overlay.deaf c.args.overlay.now)
    c.facts.ensures.sound c.facts.ensures.current in
    can_step plan script layer kept t turn.v config can _ c.args.room.now.heard.items
    (c.of-heard.ensures ∙ c.deref.ensures.value) c.args.output c.requires.output
    c.requires.set.ready.heard.size c.args.room.now.step.out c.requires.set.ready.step.out
    (λ some. let e = c.requires.enough some in e.some)

pub returns : goal.returns
returns g c =
    let turn = c.args.turn.now in
    let plan = turn.round.now.tower.now in
    let script = turn.round.now.script.now in
    let t : ℕ = turn.round.now.t in
    let config = turn.states.now.current in
    let layer = g.O.Overlay.layer c.args.overlay.now in
    let kept = g.O.Overlay.kept c.args.overlay.now in
    let can = can_turn layer turn c.args.room.now c.facts-2.ensures c.requires.set
    (g.met.O.Overlay.keeps_range c.args.overlay.now) (g.met.O.Overlay.deaf c.args.overlay.now)
    c.facts.ensures.sound c.facts.ensures.current in
    let step = step_is_that plan script layer kept t turn.v config can _
    c.args.room.now.heard.items (c.of-heard.ensures ∙ c.deref.ensures.value)
    c.args.output c.requires.output
    c.requires.set.ready.heard.size (λ some. let e = c.requires.enough some in e.step) in
    record {
      layer = c.advance.ensures.layer;
      kept = c.advance.ensures.kept ∙ ap (λ s. slice_set kept turn.v s.kept) step;
      out = c.advance.ensures.out
          ∙ ap (λ s. layered layer s.registers c.args.room.now.step.out) step;
      work = as_roomy script.nodes c.args.room.now.work c.advance.new.work
          c.advance.ensures.work c.requires.set.ready.work;
      same = search rules;
    }
