use Rattle.std.proofs.Common.{sym, ap, arith}
use Rattle.std.specs.Int.{div_ceil}
use Rattle.state_codec.proofs.NoNodes.{no_bits}
use Rattle.state_codec.proofs.shapes.StateShape.bytes.Goals as goal

pub returns-then-nodes-eq0-clause-value : goal.returns-then-nodes-eq0-clause-value
returns-then-nodes-eq0-clause-value c =
    sym (ap (λ bits. div_ceil bits 8)
    (no_bits _ c.facts.ensures (omega (arith, c.nodes.ensures.value))))
