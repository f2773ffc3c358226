-- Inputs of calls that connect, whatever is sent.
use Rattle.std.proofs.Common.{ℕ, ◌+◌, ◌≤◌, List, Ok, ap, ◌∙◌, arith}
use Rattle.sync_types.specs.States.{State}
use Rattle.machines.specs.Machines.{Machine}
use Rattle.node_stepper.specs.RunLaws.{Connects}
use Rattle.node_stepper.proofs.Connected.{any_lies_connect}
use Rattle.node_stepper.specs.Packets.{most_packets}
use Rattle.node_words.specs.Constructions.{Words}
use Rattle.node_words.specs.Inputs.{header_stated, AreOneMachine, BeginIn}
use Rattle.node_words.specs.Inputs.{InputsConnect, AnyInputsConnect}
use Rattle.node_words.proofs.InputTexts.{AreWritten, AreFed, inputs_of, begin, same_cell, ends}
use Rattle.node_words.proofs.InputTexts.{connect, texts_by, sound, short, are_bytes}
use Rattle.node_words.proofs.InputBytes.{connected_fit}

-- nodes that are connected are fed
pub fed_by : (m : Machine) (faulty : List ℕ) (starts : ℕ → State) (sent : ℕ → ℕ → ℕ → List ℕ)
    (begins : ℕ → ℕ) (rounds : ℕ) → ((v : ℕ) → begins v + rounds ≤ most_packets)
    → (c : Connects m faulty starts sent begins rounds)
    → AreFed m faulty c.nodes (λ v. begins v + rounds)
fed_by m faulty starts sent begins rounds few c = record {
  starts = c.are.starts;
  long = λ v correct. c.long v;
  full = λ v correct. c.full v;
  few = λ v correct. few v;
}

module _ {Reader Plan Premise : Type 0} (words : Words Reader Plan Premise)
    {Accepted : Plan → Type 0} (lines : Plan → ℕ) (text : Plan → (v : ℕ) → State → List ℕ)
    (law : AreWritten words Accepted lines text) (m : Machine) (plans : ℕ → Plan)
    (stated : AreOneMachine words Accepted m plans)
    (faulty : List ℕ) (starts : ℕ → State) (sent : ℕ → ℕ → ℕ → List ℕ) (begins : ℕ → ℕ)
    (rounds : ℕ) (few : (v : ℕ) → begins v + rounds ≤ most_packets)
    (c : Connects m faulty starts sent begins rounds) where
  abbrev count : ℕ → ℕ
  count v = begins v + rounds

  abbrev fed : AreFed m faulty c.nodes count
  fed = fed_by m faulty starts sent begins rounds few c

  begin_is : BeginIn words lines m plans faulty starts (inputs_of (texts_by text plans) c.nodes)
  begin_is v correct =
      begin words lines text law m plans stated faulty c.nodes count fed v correct
      ∙ ap (λ (s : ℕ → State). Ok (header_stated (lines (plans v)) (plans v) v (s v))) c.begin

  inputs_connect : InputsConnect words lines m plans faulty starts sent begins rounds
  inputs_connect = record {
    inputs = inputs_of (texts_by text plans) c.nodes;
    in_bytes = λ fits v correct.
        are_bytes words lines text law m plans stated faulty c.nodes count fed v
        (connected_fit m (short words lines text law m plans stated) faulty starts sent begins
        rounds fits c v);
    connect =
        connect words lines text law m plans stated faulty c.nodes count fed begins rounds
        (λ v correct. omega arith)
        (λ i v u lt v_correct u_correct other. c.wrote i v u lt u_correct);
    begin = begin_is;
    given = λ t v u lt correct ult when.
        same_cell words lines text law m plans stated faulty c.nodes count fed t v u correct
        ∙ c.given t v u lt ult when;
    ends = ends words lines text law m plans stated faulty c.nodes count fed;
  }

pub any_connect : {Reader Plan Premise : Type 0} (words : Words Reader Plan Premise)
    (Accepted : Plan → Type 0) (lines : Plan → ℕ) (text : Plan → (v : ℕ) → State → List ℕ)
    → AreWritten words Accepted lines text → AnyInputsConnect words lines Accepted
any_connect words Accepted lines text law m plans stated faulty starts sent begins rounds few
    begun =
    inputs_connect words lines text law m plans stated faulty starts sent begins rounds few
    (any_lies_connect m (sound words lines text law m plans stated) faulty starts sent begins
    rounds begun)
