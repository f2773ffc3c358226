use Rattle.std.proofs.Common.{◌∙◌}
use Rattle.consensus_layer.proofs.SlotLengths.{one_slot_length}
use Rattle.consensus_layer.proofs.agreement.Agreement.slot_length.Goals as goal

pub returns : goal.returns
returns c = λ nodes faults modulus depth values inputs same.
    let a = c.args.self.now in
    c.slot_length.ensures ∙ one_slot_length a.nodes a.faults a.modulus a.depth a.values
    a.inputs.items nodes faults modulus depth values inputs same
