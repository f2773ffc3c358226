use Rattle.std.proofs.Common.{sym, arith}
use Rattle.state_codec.proofs.NoNodes.{no_bits}
use Rattle.state_codec.proofs.shapes.StateShape.bits.Goals as goal

pub returns-then-nodes-eq0 : goal.returns-then-nodes-eq0
returns-then-nodes-eq0 c = sym (no_bits _ c.facts.ensures (omega (arith, c.nodes.ensures.value)))
