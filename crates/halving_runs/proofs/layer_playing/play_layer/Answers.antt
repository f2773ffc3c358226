use Rattle.std.proofs.Common.{ap, ◌∙◌}
use Rattle.halving_runs.specs.LayerInputs.{numbers_of}
use Rattle.halving_runs.proofs.LayerPlays.{layer_for, layer_text}
use Rattle.halving_runs.proofs.Written.{played_as}
use Rattle.halving_runs.proofs.layer_playing.play_layer.Goals as goal

pub lines-lines-requires : goal.lines-lines-requires
lines-lines-requires g c =
    let read = c.in-Ok.ensures in
    rw (c.numbers_of.ensures, c.plan.ensures) (read.said, read.fits)

pub play_above-requires-clause-read : goal.play_above-requires-clause-read
play_above-requires-clause-read g c =
    let part = g.P.CounterPart in
    let read = c.in-Ok.ensures in
    layer_for part.NAME part.said_in part.registers part.fits part.is_made
    g.met.P.CounterPart.sound g.P.LayerPart.words g.met.P.LayerPart.right c.args.input.now
    c.in-Ok.layer c.in-Ok.scripted read _ _
    (g.met.P.LayerPart.fresh (numbers_of c.in-Ok.scripted.0) read.said c.in-Ok.layer read.made_is)

pub play_above-requires-clause-shape : goal.play_above-requires-clause-shape
play_above-requires-clause-shape g c = c.in-Ok.ensures.script.right.states

pub returns-in-Ok-clause-does : goal.returns-in-Ok-clause-does
returns-in-Ok-clause-does g c =
    let part = g.P.CounterPart in
    let read = c.in-Ok.ensures in
    played_as _ _ _ _ _
    (layer_text part.NAME part.said_in part.registers part.fits part.is_made
    g.met.P.CounterPart.sound g.P.LayerPart.words g.met.P.LayerPart.right c.args.input.now
    c.in-Ok.layer c.in-Ok.scripted read _ _
    (g.met.P.LayerPart.fresh (numbers_of c.in-Ok.scripted.0) read.said c.in-Ok.layer read.made_is)
    _ (c.lines-lines.ensures
    ∙ ap g.P.LayerPart.words.wording (c.numbers_of.ensures ∙ ap numbers_of c.plan.ensures)))
    c.play_above.ensures.does
