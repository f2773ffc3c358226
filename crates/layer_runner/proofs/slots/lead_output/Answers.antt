use Rattle.std.proofs.Common.{ap, ap₂, ◌∙◌}
use Rattle.layer_laws.specs.Lowest.{lowest_correct}
use Rattle.layer_runner.specs.SlotTexts.{output_of}
use Rattle.layer_runner.proofs.Played.{faulty_ids}
use Rattle.layer_runner.proofs.slots.lead_output.Goals as goal

pub returns : goal.returns
returns g c =
    let p = g.P.Play.position c.args.play.now in
    let faulty = faulty_ids _ _ _ _ _ c.faulty_at-faulty.ensures c.script.ensures c.at.ensures in
    c.output.ensures ∙ ap (output_of p.counter p.scene.states)
    (c.lowest_correct.ensures.value ∙ ap₂ lowest_correct c.nodes.ensures faulty)
