-- The text of a header of a plan is read as that header.
use Rattle.std.proofs.Common.{◌≡◌, ℕ, ◌+◌, ◌≤◌, List, ◌++◌, ◌∷◌, append_assoc, arith}
use Rattle.std.specs.Prelude.{codes}
use Rattle.construction.specs.Plans.{Plan, plan_nodes, plan_depth}
use Rattle.plan_numbers.specs.Premises.{IsAccepted}
use Rattle.plan_numbers.proofs.Accepted.{accepted_depth, accepted_sized}
use Rattle.plan_reader.specs.TextLines.{version_line, base_line}
use Rattle.plan_reader.specs.PlanTexts.{level_texts}
use Rattle.plan_reader.proofs.ReadBack.{text_is_read}
use Rattle.state_codec.specs.Shapes.{moduli_of}
use Rattle.state_codec.proofs.Plans.{shape_of_accepted, nodes_of_shape, depth_of_shape}
use Rattle.state_codec.proofs.PlanStates.{in_range_of_node}
use Rattle.node_words.specs.Headers.{plan_part}
use Rattle.node_words.specs.HeaderTexts.{plan_writing, HeaderTextIsRead}
use Rattle.node_words.proofs.PlanBits.{plan_bits}
use Rattle.node_words.proofs.WrittenHeaders.{PlansReadBack, are_read_back}

four : (a b c rest : List ℕ)
    → (a ++ (b ++ (c ++ codes "end\n"))) ++ rest ≡ (a ++ (b ++ (c ++ codes "end"))) ++ 10 ∷ rest
four a b c rest = simp append_assoc

few_nodes : (plan : Plan) → IsAccepted plan → plan_nodes plan ≤ 256
few_nodes plan accepted = (accepted_sized plan.base plan.levels accepted.levels).most

plans_read_back : PlansReadBack plan_part plan_writing IsAccepted
plans_read_back = record {
  count = λ plan. plan_depth plan + 3;
  lines = λ plan. omega arith;
  few = λ plan accepted.
      omega (arith, accepted_depth plan.base plan.levels accepted.levels);
  read = λ plan accepted rest.
      text_is_read plan plan.version rest accepted (omega arith) accepted.newest;
  front = λ plan.
      version_line (codes "plan ") plan.version
      ++ (base_line plan.base ++ (level_texts plan.version plan ++ codes "end"));
  ends = λ plan rest.
      four (version_line (codes "plan ") plan.version) (base_line plan.base)
      (level_texts plan.version plan) rest;
  shape = shape_of_accepted;
  nodes = λ plan accepted.
      omega (arith, few_nodes plan accepted, nodes_of_shape plan (moduli_of plan.levels));
  depth = λ plan accepted.
      omega (arith, accepted_depth plan.base plan.levels accepted.levels, depth_of_shape plan);
  bits = λ plan accepted v lt.
      plan_bits plan accepted v (omega (arith, lt, nodes_of_shape plan (moduli_of plan.levels)));
}

pub text_is_read_back : HeaderTextIsRead
text_is_read_back plan accepted v lt s is =
    are_read_back plan_part plan_writing IsAccepted plans_read_back plan accepted v
    (omega (arith, lt, nodes_of_shape plan (moduli_of plan.levels))) s
    (in_range_of_node plan accepted v lt s is)
