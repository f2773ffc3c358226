use Rattle.std.proofs.Common.{refl}
use Rattle.layer_parts.proofs.log_part.ReplicaLayerPart.lines.Goals as goal

pub new-requires : goal.new-requires
new-requires c = c.requires.1.whole

pub returns : goal.returns
returns c =
    let is = c.new.ensures in
    rw (is.nodes, is.faults, is.modulus) refl
