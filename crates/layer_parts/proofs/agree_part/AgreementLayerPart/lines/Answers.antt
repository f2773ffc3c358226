use Rattle.std.proofs.Common.{ap, ◌∙◌, arith}
use Rattle.layer_laws.specs.Slots.{slot_length}
use Rattle.layer_runner.specs.DecisionTexts.{decision_wording}
use Rattle.layer_parts.proofs.agree_part.AgreementLayerPart.lines.Goals as goal

pub new-requires : goal.new-requires
new-requires c =
    let quorum = c.facts.ensures.quorum in
    let few = c.facts.ensures.few in
    omega (arith, quorum, few, c.faults.ensures)

pub returns : goal.returns
returns c = ap decision_wording (c.new.ensures ∙ ap slot_length c.faults.ensures)
