-- Inputs of calls, of which one is started anew.
use Rattle.std.proofs.Common.{◌≡◌, ℕ, ◌+◌, ◌≤◌, Bool, true, false, cond, List, Ok, refl, sym}
use Rattle.std.proofs.Common.{ap, ◌∙◌, arith}
use Rattle.std.specs.Prelude.{◌==◌}
use Rattle.std.proofs.lemmas.Bool.{eqb-true, ne_eqb}
use Rattle.sync_types.specs.States.{State}
use Rattle.machines.specs.Machines.{Machine}
use Rattle.node_stepper.specs.NodeRuns.{Nodes, cell_given, IsCorrect}
use Rattle.node_stepper.specs.Restarts.{begins_later, AreFaultyMeanwhile, RestartConnects}
use Rattle.node_stepper.proofs.Restarts.{apart, correct_too, any_restart_connects}
use Rattle.node_stepper.specs.Packets.{most_packets}
use Rattle.node_words.specs.Constructions.{Words}
use Rattle.node_words.specs.Calls.{whole, cell_heard}
use Rattle.node_words.specs.CallWindows.{CallsConnect}
use Rattle.node_words.specs.Restarts.{calls_after, begins_after}
use Rattle.node_words.specs.Inputs.{header_stated, AreOneMachine, BeginIn}
use Rattle.node_words.specs.RestartInputs.{calls_of, restart_of, InputsRestart, AnyInputsRestart}
use Rattle.node_words.proofs.InputTexts.{AreWritten, AreFed, inputs_of, begin, same_cell, ends}
use Rattle.node_words.proofs.InputTexts.{connect, connect_same, texts_by, sound, short}
use Rattle.node_words.proofs.InputTexts.{are_bytes}
use Rattle.node_words.proofs.InputBytes.{connected_fit}
use Rattle.node_words.proofs.Inputs.{fed_by}

-- packets are few in the rest too
few_by : (b : Bool) (begins after rounds most : ℕ) → begins + (after + rounds) ≤ most
    → cond b 0 (begins + after) + rounds ≤ most
few_by true begins after rounds most few = omega (arith, few)
few_by false begins after rounds most few = omega (arith, few)

pub few_later : (node after : ℕ) (begins : ℕ → ℕ) (rounds most : ℕ)
    → ((v : ℕ) → begins v + (after + rounds) ≤ most)
    → (v : ℕ) → begins_later node after begins v + rounds ≤ most
few_later node after begins rounds most few v =
    few_by (v == node) (begins v) after rounds most (few v)

-- where the rest begins in a node that is correct all the time
pub later_is : (m : Machine) (faulty meanwhile : List ℕ) (node after : ℕ) (begins : ℕ → ℕ)
    → AreFaultyMeanwhile node faulty meanwhile → (v : ℕ) → IsCorrect m meanwhile v
    → begins_later node after begins v ≡ begins v + after
later_is m faulty meanwhile node after begins too v correct =
    ap (λ b. cond b 0 (begins v + after))
    (ne_eqb v node (apart m faulty meanwhile node too v correct))

-- nodes that are correct all the time are fed like those of the rest
pub fed_meanwhile : (m : Machine) (faulty meanwhile : List ℕ) (node : ℕ)
    → AreFaultyMeanwhile node faulty meanwhile → (nodes : Nodes) (count : ℕ → ℕ)
    → AreFed m faulty nodes count → AreFed m meanwhile nodes count
fed_meanwhile m faulty meanwhile node too nodes count fed = record {
  starts = λ v correct. fed.starts v (correct_too m faulty meanwhile node too v correct);
  long = λ v correct. fed.long v (correct_too m faulty meanwhile node too v correct);
  full = λ v correct. fed.full v (correct_too m faulty meanwhile node too v correct);
  few = λ v correct. fed.few v (correct_too m faulty meanwhile node too v correct);
}

-- the call that is started anew is one of the calls
call_same : (inputs : ℕ → List ℕ) (node after v : ℕ) (b : Bool) → (v == node) ≡ b
    → cond b (whole (inputs node)) (whole (inputs v)) ≡ calls_of inputs v
call_same inputs node after v true it = ap (λ u. whole (inputs u)) (sym (eqb-true v node it))
call_same inputs node after v false other = refl

module _ {Reader Plan Premise : Type 0} (words : Words Reader Plan Premise)
    {Accepted : Plan → Type 0} (lines : Plan → ℕ) (text : Plan → (v : ℕ) → State → List ℕ)
    (law : AreWritten words Accepted lines text) (m : Machine) (plans : ℕ → Plan)
    (stated : AreOneMachine words Accepted m plans) (faulty meanwhile : List ℕ) (node after : ℕ)
    (too : AreFaultyMeanwhile node faulty meanwhile)
    (starts : ℕ → State) (sent : ℕ → ℕ → ℕ → List ℕ) (begins : ℕ → ℕ) (rounds : ℕ)
    (few : (v : ℕ) → begins v + (after + rounds) ≤ most_packets)
    (r : RestartConnects m faulty meanwhile node after starts sent begins rounds) where
  abbrev later : ℕ → ℕ
  later = begins_later node after begins

  abbrev count : ℕ → ℕ
  count v = later v + rounds

  abbrev own : Nodes
  own = r.rest.nodes

  abbrev fed : AreFed m faulty own count
  fed =
      fed_by m faulty starts r.sent_later later rounds
      (few_later node after begins rounds most_packets few) r.rest

  abbrev inputs : ℕ → List ℕ
  inputs = inputs_of (texts_by text plans) own

  rest : CallsConnect words m faulty (calls_after (restart_of inputs node after)
      (calls_of inputs)) (begins_after (restart_of inputs node after) begins) rounds
  rest =
      connect_same words m faulty (calls_of inputs)
      (calls_after (restart_of inputs node after) (calls_of inputs)) later rounds
      (λ v. call_same inputs node after v (v == node) refl)
      (connect words lines text law m plans stated faulty own count fed later rounds
      (λ v correct. omega arith)
      (λ i v u lt correct other different. r.rest.wrote i v u lt other))

  all : CallsConnect words m meanwhile (calls_of inputs) begins (after + rounds)
  all =
      connect words lines text law m plans stated meanwhile own count
      (fed_meanwhile m faulty meanwhile node too own count fed) begins (after + rounds)
      (λ v correct.
      let at = later_is m faulty meanwhile node after begins too v correct in omega (arith, at))
      (λ i v u lt correct other different. r.wrote i v u lt correct other)

  begin_is : BeginIn words lines m plans faulty starts inputs
  begin_is v correct =
      begin words lines text law m plans stated faulty own count fed v correct
      ∙ ap (λ (s : ℕ → State). Ok (header_stated (lines (plans v)) (plans v) v (s v)))
      r.rest.begin

  same : (t v u : ℕ) → IsCorrect m faulty v
      → cell_heard words (whole (inputs v)) t u ≡ cell_given own t v u
  same t v u correct =
      same_cell words lines text law m plans stated faulty own count fed t v u correct

  inputs_restart : InputsRestart words lines m plans faulty meanwhile node after starts sent
      begins rounds
  inputs_restart = record {
    inputs = inputs;
    in_bytes = λ fits v correct.
        let few_bytes = short words lines text law m plans stated in
        are_bytes words lines text law m plans stated faulty own count fed v
        (connected_fit m few_bytes faulty starts r.sent_later later rounds (r.fit few_bytes fits)
        r.rest v);
    all = all;
    rest = rest;
    begin = begin_is;
    given = λ t v u lt correct ult is.
        same t v u (correct_too m faulty meanwhile node too v correct)
        ∙ r.given t v u lt correct ult is;
    given_anew = λ i u lt correct ult is.
        same i node u correct ∙ r.given_anew i u lt ult is;
    ends = ends words lines text law m plans stated faulty own count fed;
  }

pub any_restart : {Reader Plan Premise : Type 0} (words : Words Reader Plan Premise)
    (Accepted : Plan → Type 0) (lines : Plan → ℕ) (text : Plan → (v : ℕ) → State → List ℕ)
    → AreWritten words Accepted lines text → AnyInputsRestart words lines Accepted
any_restart words Accepted lines text law m plans stated faulty meanwhile node after too starts
    sent begins rounds few begun =
    inputs_restart words lines text law m plans stated faulty meanwhile node after too starts sent
    begins rounds few
    (any_restart_connects m (sound words lines text law m plans stated) faulty meanwhile node after
    too starts sent begins rounds begun)
