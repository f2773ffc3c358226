-- The text of a header of a halving plan is read as that header.
use Rattle.std.proofs.Common.{◌≡◌, ℕ, List, [], ◌∷◌, ◌++◌, sym, subst}
use Rattle.std.proofs.Common.{append_assoc, arith}
use Rattle.std.specs.Prelude.{codes, decimal}
use Rattle.std.specs.List.{concat}
use Rattle.std.proofs.lemmas.List.{append-nil}
use Rattle.state_codec.specs.Shapes.{Fields}
use Rattle.state_codec.specs.Ranges.{InRange}
use Rattle.node_words.proofs.WrittenHeaders.{PlansReadBack, are_read_back}
use Rattle.halving_plan.specs.Plans.{HalvingNumbers, IsAccepted}
use Rattle.halving_texts.specs.HalvingTexts.{halving_text}
use Rattle.halving_texts.proofs.ReadBack.{text_is_read}
use Rattle.halving_texts.specs.HalvingShapes.{halving_part}
use Rattle.halving_texts.specs.HeaderTexts.{halving_writing, HalvingHeaderTextIsRead}
use Rattle.halving_texts.proofs.PlanBits.{some_bits_at, few_registers}
use Rattle.halving_texts.proofs.Shaped.{nodes_are, fields_are, is_shape}

-- a plan's lines, without the last newline
abbrev front : HalvingNumbers → List ℕ
front plan = concat (
    codes "halving 1\n"
    ∷ codes "group " ∷ decimal plan.nodes
    ∷ codes " " ∷ decimal plan.faults
    ∷ codes " " ∷ decimal plan.modulus
    ∷ codes "\n"
    ∷ codes "end" ∷ [])

plan_ends : (plan : HalvingNumbers) (rest : List ℕ)
    → halving_text plan ++ rest ≡ front plan ++ 10 ∷ rest
plan_ends plan rest = simp (append_assoc, append-nil)

plans_read_back : PlansReadBack halving_part halving_writing IsAccepted
plans_read_back = record {
  count = λ plan. 3;
  lines = λ plan. omega arith;
  few = λ plan accepted. omega arith;
  read = λ plan accepted rest. text_is_read plan rest accepted;
  front = front;
  ends = plan_ends;
  shape = is_shape;
  nodes = λ plan accepted. omega (arith, nodes_are plan accepted, accepted.most_nodes);
  depth = few_registers;
  bits = λ plan accepted v lt.
      some_bits_at plan accepted v (omega (arith, lt, nodes_are plan accepted));
}

pub text_is_read_back : HalvingHeaderTextIsRead
text_is_read_back plan accepted v lt s is =
    are_read_back halving_part halving_writing IsAccepted plans_read_back plan accepted v
    (omega (arith, lt, nodes_are plan accepted)) s
    (subst (λ (f : Fields). InRange f s) (sym (fields_are plan accepted v lt)) is)
