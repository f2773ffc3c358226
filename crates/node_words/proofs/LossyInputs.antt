-- Inputs of calls to which cells are lost.
use Rattle.std.proofs.Common.{◌≡◌, ℕ, ◌+◌, ◌<◌, ◌≤◌, false, List, Ok, refl, ap, ◌∙◌, arith}
use Rattle.sync_types.specs.States.{State}
use Rattle.construction.specs.Runs.{is_in}
use Rattle.machines.specs.Machines.{Machine}
use Rattle.node_stepper.specs.NodeRuns.{cell_given, IsCorrect}
use Rattle.node_stepper.specs.Losses.{AreMissed}
use Rattle.node_stepper.specs.Lossy.{ConnectsMost}
use Rattle.node_stepper.proofs.Connected.{any_losses_connect}
use Rattle.node_stepper.proofs.Losses.{not_so}
use Rattle.node_stepper.specs.Packets.{most_packets}
use Rattle.node_words.specs.Constructions.{Words}
use Rattle.node_words.specs.Calls.{whole, cell_heard}
use Rattle.node_words.specs.CallWindows.{CallsAreHeard}
use Rattle.node_words.specs.Inputs.{header_stated, AreOneMachine, BeginIn}
use Rattle.node_words.specs.RestartInputs.{calls_of}
use Rattle.node_words.specs.LossyInputs.{InputsLose, AnyInputsLose}
use Rattle.node_words.proofs.InputTexts.{AreWritten, AreFed, inputs_of, begin, same_cell, ends}
use Rattle.node_words.proofs.InputTexts.{are_calls, cell_is, texts_by, sound, short, are_bytes}
use Rattle.node_words.proofs.InputBytes.{lossy_fit}

module _ {Reader Plan Premise : Type 0} (words : Words Reader Plan Premise)
    {Accepted : Plan → Type 0} (lines : Plan → ℕ) (text : Plan → (v : ℕ) → State → List ℕ)
    (law : AreWritten words Accepted lines text) (m : Machine) (plans : ℕ → Plan)
    (stated : AreOneMachine words Accepted m plans) (faulty : List ℕ) (starts : ℕ → State)
    (sent : ℕ → ℕ → ℕ → List ℕ)
    (missed : (i v : ℕ) → List ℕ) (begins : ℕ → ℕ) (rounds : ℕ)
    (few : (v : ℕ) → begins v + rounds ≤ most_packets)
    (are : (i v : ℕ) → i < rounds → IsCorrect m faulty v → AreMissed m faulty v (missed i v))
    (c : ConnectsMost m faulty starts sent missed begins rounds) where
  abbrev count : ℕ → ℕ
  count v = begins v + rounds

  fed : AreFed m faulty c.nodes count
  fed = record {
    starts = c.are.starts;
    long = λ v correct. c.long v;
    full = λ v correct. c.full v;
    few = λ v correct. few v;
  }

  abbrev inputs : ℕ → List ℕ
  inputs = inputs_of (texts_by text plans) c.nodes

  within : (v : ℕ) → IsCorrect m faulty v → begins v + rounds ≤ count v
  within v correct = omega arith

  -- a node that is not missed is correct
  not_missed : (i v u : ℕ) → i < rounds → IsCorrect m faulty v → u < m.nodes
      → is_in (missed i v) u ≡ false → IsCorrect m faulty u
  not_missed i v u lt correct ult is =
      (ult, not_so (is_in faulty u) (is_in (missed i v) u) ((are i v lt correct).faulty_too u) is)

  heard : CallsAreHeard words m faulty (calls_of inputs) begins rounds
  heard = record {
    are_calls = are_calls words lines text law m plans stated faulty c.nodes count fed begins rounds
        within;
    missed = missed;
    are = are;
    cells = λ i v u lt correct ult is other.
        cell_is words lines text law m plans stated faulty c.nodes count fed begins rounds within i
        v u lt correct (not_missed i v u lt correct ult is) (c.wrote i v u lt ult is);
  }

  begin_is : BeginIn words lines m plans faulty starts inputs
  begin_is v correct =
      begin words lines text law m plans stated faulty c.nodes count fed v correct
      ∙ ap (λ (s : ℕ → State). Ok (header_stated (lines (plans v)) (plans v) v (s v))) c.begin

  same : (t v u : ℕ) → IsCorrect m faulty v
      → cell_heard words (whole (inputs v)) t u ≡ cell_given c.nodes t v u
  same t v u correct =
      same_cell words lines text law m plans stated faulty c.nodes count fed t v u correct

  inputs_lose : InputsLose words lines m plans faulty starts sent missed begins rounds
  unfolding heard
  inputs_lose = record {
    inputs = inputs;
    in_bytes = λ fits v correct.
        are_bytes words lines text law m plans stated faulty c.nodes count fed v
        (lossy_fit m (short words lines text law m plans stated) faulty starts sent begins rounds
        fits missed c v);
    heard = heard;
    misses = refl;
    begin = begin_is;
    early = λ t v u lt correct ult. same t v u correct ∙ c.early t v u lt ult;
    lost = λ i v u lt correct ult is. same (begins v + i) v u correct ∙ c.lost i v u lt ult is;
    ends = ends words lines text law m plans stated faulty c.nodes count fed;
  }

pub any_lose : {Reader Plan Premise : Type 0} (words : Words Reader Plan Premise)
    (Accepted : Plan → Type 0) (lines : Plan → ℕ) (text : Plan → (v : ℕ) → State → List ℕ)
    → AreWritten words Accepted lines text → AnyInputsLose words lines Accepted
any_lose words Accepted lines text law m plans stated faulty starts sent missed begins rounds few
    begun are =
    inputs_lose words lines text law m plans stated faulty starts sent missed begins rounds few are
    (any_losses_connect m (sound words lines text law m plans stated) faulty starts sent missed
    begins rounds begun are)
