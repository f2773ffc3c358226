use Rattle.std.proofs.Common.{ap}
use Rattle.std.specs.Int.{div_ceil}
use Rattle.state_codec.proofs.Plans as plans
use Rattle.state_codec.proofs.laws.first_node_has_all.Goals as goal

pub returns : goal.returns
returns c = record {
  fields = plans.first_has_all;
  bits = plans.first_bits;
  bytes = λ plan accepted. ap (λ bits. div_ceil bits 8) (plans.first_bits plan accepted);
}
