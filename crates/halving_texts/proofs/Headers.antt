-- The plan of a header is accepted, and is a machine that is served.
use Rattle.std.proofs.Common.{Result, Ok, Err, sym, ◌∙◌, arith}
use Rattle.std.specs.Prelude.{IfOk}
use Rattle.node_words.specs.Constructions.{IsShaped}
use Rattle.node_words.specs.HeaderPromises.{HeadersAreOfMachines}
use Rattle.node_words.proofs.SoundHeaders.{IsServed, are_of_machines}
use Rattle.halving_plan.specs.Plans.{HalvingNumbers, IsAccepted}
use Rattle.halving_plan.proofs.Sound.{accepted_are_sound, nodes_are}
use Rattle.halving_texts.proofs.Rewritten.{read_is_accepted}
use Rattle.halving_texts.proofs.Shaped as shaped
use Rattle.halving_texts.specs.HalvingWords.{halving_words}

pub is_shaped : (plan : HalvingNumbers) → IsAccepted plan → IsShaped halving_words plan
is_shaped plan accepted = record {
  nodes = shaped.nodes_are plan accepted ∙ sym (nodes_are plan accepted);
  fields = λ v lt. shaped.fields_are plan accepted v (omega (arith, lt, nodes_are plan accepted));
}

is_served : (plan : HalvingNumbers) → IsAccepted plan → IsServed halving_words plan
is_served plan accepted = record {
  sound = accepted_are_sound plan accepted;
  shape = shaped.is_shape plan accepted;
  shaped = is_shaped plan accepted;
}

pub headers_are_served : HeadersAreOfMachines halving_words IsAccepted
headers_are_served = are_of_machines halving_words IsAccepted is_served read_is_accepted

-- whatever a call gives for an accepted plan
pub ok_shaped : {A E : Type 0} (r : Result A E) (plan : HalvingNumbers) → IsAccepted plan
    → IfOk r (λ _. IsShaped halving_words plan)
ok_shaped (Err other) plan accepted = tt
ok_shaped (Ok value) plan accepted = is_shaped plan accepted
