use Rattle.state_codec.specs.Shapes.{moduli_of}
use Rattle.state_codec.proofs.Lows as lows
use Rattle.state_codec.proofs.Plans as plans
use Rattle.state_codec.proofs.laws.plans_have_shapes.Goals as goal

pub returns : goal.returns
returns c = record {
  shape = plans.shape_of_accepted;
  fields = lows.fields_limited;
  all = plans.bits_of_all;
  bits = plans.bits_of_shape;
  depth = plans.depth_of_shape;
  nodes = λ plan. plans.nodes_of_shape plan (moduli_of plan.levels);
}
