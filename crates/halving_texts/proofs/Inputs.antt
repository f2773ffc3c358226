-- The header texts of halving plans are those of sound machines.
use Rattle.std.proofs.Common.{ℕ, ◌<◌, List, [], ◌∷◌, arith, refl}
use Rattle.std.specs.Prelude.{codes}
use Rattle.std.proofs.lemmas.List.Elements.{All-append}
use Rattle.sync_types.specs.States.{State}
use Rattle.node_stepper.specs.Bytes.{AreBytes}
use Rattle.node_words.proofs.InputTexts.{AreWritten}
use Rattle.node_words.proofs.TextBytes.{word, count, pieces_bytes, node_part}
use Rattle.node_words.specs.WrittenHeaders.{node_part_in}
use Rattle.halving_plan.specs.Plans.{HalvingNumbers, IsAccepted}
use Rattle.halving_plan.specs.Laws.{AcceptedAreSound}
use Rattle.halving_plan.proofs.Sound.{nodes_are}
use Rattle.halving_plan.proofs.FewBits.{few_bits}
use Rattle.halving_texts.specs.HalvingTexts.{halving_text}
use Rattle.halving_texts.specs.HalvingShapes.{shape_of}
use Rattle.halving_texts.specs.HeaderTexts.{header_text, HalvingHeaderTextIsRead}
use Rattle.halving_texts.specs.NodePromises.{header_lines}
use Rattle.halving_texts.specs.HalvingWords.{halving_words}

plan_bytes : (plan : HalvingNumbers) → AreBytes (halving_text plan)
plan_bytes plan =
    pieces_bytes (
    word (codes "halving 1\n")
    ∷ word (codes "group ") ∷ count plan.nodes
    ∷ word (codes " ") ∷ count plan.faults
    ∷ word (codes " ") ∷ count plan.modulus
    ∷ word (codes "\n")
    ∷ word (codes "end\n") ∷ []) refl

header_bytes : (plan : HalvingNumbers) (v : ℕ) (s : State) → AreBytes (header_text plan v s)
header_bytes plan v s =
    All-append (λ byte. byte < 256) (halving_text plan) (node_part_in (shape_of plan) v s)
    (plan_bytes plan) (node_part (shape_of plan) v s)

pub is_written : HalvingHeaderTextIsRead → AcceptedAreSound
    → AreWritten halving_words IsAccepted header_lines header_text
is_written headers sound = record {
  sound = sound;
  short = λ plan accepted v lt. omega (arith, few_bits plan accepted v);
  bytes = header_bytes;
  read = λ plan accepted v lt s is longer rest.
      headers plan accepted v (omega (arith, lt, nodes_are plan accepted)) s is longer rest;
}
