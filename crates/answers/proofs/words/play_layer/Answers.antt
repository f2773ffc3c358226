use Rattle.std.proofs.Common.{ap, ◌∙◌}
use Rattle.plan_laws.specs.PlanMeaning.{plan_meaning}
use Rattle.round_runner.specs.Locks.{is_locked}
use Rattle.layer_laws.specs.Numbers.{numbers_of}
use Rattle.outcomes.specs.Layered.{Layered, layered_by}
use Rattle.answers.specs.declared.errors.Unanswered.TheVariants as end
use Rattle.answers.proofs.LayeredPlays.{said_fits, layer_fits, shape_fits, fresh_as, layer_text}
use Rattle.answers.proofs.Unwritten.{unread, unread_text, unwritten}
use Rattle.answers.proofs.words.play_layer.Goals as goal

pub returns-in_err-layer : goal.returns-in_err-layer
returns-in_err-layer g c =
    let part = g.P.CounterPart in
    unread_text g.K.Sink.told
    (λ (l : Layered _).
    g.P.LayerPart.words.text (plan_meaning l.plan) (is_locked l.plan) l.script l.said) _
    (layered_by part.NAME part.said_in part.registers c.args.input.now) _ _
    c.in_err-layer.ensures c.from_residual.ensures.1

pub lines-lines-requires : goal.lines-lines-requires
lines-lines-requires g c =
    let part = g.P.CounterPart in
    let read = c.in_ok-layer.ensures in
    rw c.of.ensures (
      read.said,
      said_fits part.NAME part.said_in part.registers part.fits g.met.P.CounterPart.sound
          g.P.LayerPart.words g.met.P.LayerPart.right c.args.input.now _ read.said _ read.is,
    )

pub runner_of-requires-clause-over : goal.runner_of-requires-clause-over
runner_of-requires-clause-over g c =
    let part = g.P.CounterPart in
    let read = c.in_ok-layer.ensures in
    layer_fits part.NAME part.said_in part.registers part.fits g.met.P.CounterPart.sound
    g.P.LayerPart.words g.met.P.LayerPart.right c.args.input.now _ read.said _ read.is _ _
    (g.met.P.LayerPart.fresh (numbers_of c.in_ok-layer.read.plan) read.said _ read.made_is)

pub runner_of-requires-clause-shape : goal.runner_of-requires-clause-shape
runner_of-requires-clause-shape g c =
    let part = g.P.CounterPart in
    let read = c.in_ok-layer.ensures in
    shape_fits part.NAME part.said_in part.registers part.fits g.met.P.CounterPart.sound
    g.P.LayerPart.words g.met.P.LayerPart.right c.args.input.now _ read.said _ read.is _ _
    (g.met.P.LayerPart.fresh (numbers_of c.in_ok-layer.read.plan) read.said _ read.made_is) _
    read.shape_is

pub runner_of-requires-clause-script : goal.runner_of-requires-clause-script
runner_of-requires-clause-script g c = c.in_ok-layer.ensures.right

pub returns-in_err-runner : goal.returns-in_err-runner
returns-in_err-runner g c =
    unread g.K.Sink.told _ _ end.NoMemory _ tt c.from_residual-in_err-runner.ensures.1

pub put_played-requires : goal.put_played-requires
put_played-requires g c = c.in_ok-runner.ensures.plays

pub returns-in_err-put_played : goal.returns-in_err-put_played
returns-in_err-put_played g c =
    let part = g.P.CounterPart in
    let read = c.in_ok-layer.ensures in
    let begun = c.in_ok-runner.ensures in
    let fresh = g.met.P.LayerPart.fresh (numbers_of c.in_ok-layer.read.plan) read.said
    c.in_ok-layer.layer read.made_is in
    unwritten g.K.Sink.told _ _ _ _ _
    (layer_text part.NAME part.said_in part.registers part.fits g.met.P.CounterPart.sound
    g.P.LayerPart.words g.met.P.LayerPart.right c.args.input.now _ read.said _ read.is _ _
    (fresh_as g.P.LayerPart.words g.P.Overlay.layer g.P.Overlay.kept _ read.said _ _
    begun.overlay_is fresh) _ _ _ begun.plan_is begun.script_is
    (c.lines-lines.ensures ∙ ap g.P.LayerPart.words.wording c.of.ensures))
    c.from_residual-in_err-put_played.ensures.1 c.in_err-put_played.ensures

pub returns : goal.returns
returns g c =
    let part = g.P.CounterPart in
    let read = c.in_ok-layer.ensures in
    let begun = c.in_ok-runner.ensures in
    let fresh = g.met.P.LayerPart.fresh (numbers_of c.in_ok-layer.read.plan) read.said
    c.in_ok-layer.layer read.made_is in
    rw (layer_text part.NAME part.said_in part.registers part.fits g.met.P.CounterPart.sound
    g.P.LayerPart.words g.met.P.LayerPart.right c.args.input.now _ read.said _ read.is _ _
    (fresh_as g.P.LayerPart.words g.P.Overlay.layer g.P.Overlay.kept _ read.said _ _
    begun.overlay_is fresh) _ _ _ begun.plan_is begun.script_is
    (c.lines-lines.ensures ∙ ap g.P.LayerPart.words.wording c.of.ensures))
    c.in_ok-put_played.ensures
