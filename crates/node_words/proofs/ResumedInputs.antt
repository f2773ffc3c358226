-- Inputs of calls, of which one ends and another call of its node goes on from its last cell.
use Rattle.std.proofs.Common.{◌≡◌, ℕ, ◌+◌, ◌≤◌, Bool, true, false, cond, List, []}
use Rattle.std.proofs.Common.{take, Some, Ok, inr, unwrap_or, refl, sym, ap, ◌∙◌, arith}
use Rattle.std.specs.Prelude.{◌==◌}
use Rattle.std.proofs.lemmas.Bool.{eqb-true}
use Rattle.sync_types.specs.States.{State}
use Rattle.state_codec.specs.Reading.{read}
use Rattle.state_codec.specs.Writing.{written}
use Rattle.machines.specs.Machines.{Machine, IsState, IsToleratedBy, IsLocked}
use Rattle.machines.specs.Laws.{IsSound}
use Rattle.node_stepper.specs.Bytes.{AreBytes, StatesFit, AllFit}
use Rattle.node_stepper.specs.Cells.{cell_number}
use Rattle.node_stepper.specs.NodeRuns.{Nodes, cell_given, IsCorrect}
use Rattle.node_stepper.specs.Restarts.{begins_later, AreFaultyMeanwhile, ResumptionConnects}
use Rattle.node_stepper.proofs.States.{reads_back, behind_is_state}
use Rattle.node_stepper.proofs.Restarts.{correct_too, any_resumption_connects}
use Rattle.node_stepper.specs.Packets.{most_packets}
use Rattle.node_words.specs.Constructions.{Words}
use Rattle.node_words.specs.Calls.{Call, whole, header_of, text_of, cell_heard}
use Rattle.node_words.specs.HeaderPromises.{HeadersAreOfMachines}
use Rattle.node_words.specs.CallWindows.{cell_written, state_written, states_written}
use Rattle.node_words.specs.CallWindows.{CallsConnect}
use Rattle.node_words.specs.Restarts.{Restart, calls_after, begins_after}
use Rattle.node_words.specs.Inputs.{header_stated, AreOneMachine}
use Rattle.node_words.specs.RestartInputs.{calls_of, restart_with}
use Rattle.node_words.specs.ResumedInputs.{InputsResume, AnyInputsResume}
use Rattle.node_words.proofs.Connected.{connected_count}
use Rattle.node_words.proofs.InputTexts.{AreWritten, AreFed, input_with, inputs_of, begin}
use Rattle.node_words.proofs.InputTexts.{same_cell, wrote, ends, connect, connect_same}
use Rattle.node_words.proofs.InputTexts.{texts_by, sound, short, are_bytes}
use Rattle.node_words.proofs.InputBytes.{PacketsFit, connected_fit}
use Rattle.node_words.proofs.Inputs.{fed_by}
use Rattle.node_words.proofs.RestartInputs.{few_later, fed_meanwhile}
use Rattle.node_words.proofs.ResumedNodes.{last, old, count, packets_second, starts_second}
use Rattle.node_words.proofs.ResumedNodes.{cell_first, cell_second, wrote_first, wrote_all}
use Rattle.node_words.proofs.ResumedNodes.{old_last, begun_last, count_is, later_is}
use Rattle.node_words.proofs.ResumedNodes.{count_other, enough, fed_old}

module _ {Reader Plan Premise : Type 0} (words : Words Reader Plan Premise)
    {Accepted : Plan → Type 0} (served : HeadersAreOfMachines words Accepted) (lines : Plan → ℕ)
    (text : Plan → (v : ℕ) → State → List ℕ) (law : AreWritten words Accepted lines text)
    (m : Machine) (plans : ℕ → Plan) (stated : AreOneMachine words Accepted m plans)
    (faulty meanwhile : List ℕ) (node after : ℕ)
    (too : AreFaultyMeanwhile node faulty meanwhile) (right : IsCorrect m faulty node)
    (starts : ℕ → State) (sent : ℕ → ℕ → ℕ → List ℕ) (begins : ℕ → ℕ) (rounds : ℕ)
    (few : (v : ℕ) → begins v + (after + rounds) ≤ most_packets)
    (begun : (v : ℕ) → IsCorrect m faulty v → IsState m v (starts v))
    (r : ResumptionConnects m faulty meanwhile node after starts sent begins rounds) where
  is_sound : IsSound m
  is_sound = sound words lines text law m plans stated

  fit_states : StatesFit m
  fit_states = short words lines text law m plans stated

  abbrev one : Nodes
  one = old m faulty meanwhile node after too right starts sent begins rounds r

  abbrev two : Nodes
  two = r.restart.rest.nodes

  abbrev state : State
  state = last m faulty meanwhile node after too right starts sent begins rounds r

  abbrev one_count : ℕ → ℕ
  one_count = count m faulty meanwhile node after too right starts sent begins rounds r

  abbrev later : ℕ → ℕ
  later = begins_later node after begins

  abbrev two_count : ℕ → ℕ
  two_count v = later v + rounds

  abbrev fed_one : AreFed m faulty one one_count
  fed_one = fed_old m faulty meanwhile node after too right starts sent begins rounds r few begun

  abbrev fed_two : AreFed m faulty two two_count
  fed_two =
      fed_by m faulty _ r.restart.sent_later later rounds
      (few_later node after begins rounds most_packets few) r.restart.rest

  abbrev inputs : ℕ → List ℕ
  inputs = inputs_of (texts_by text plans) one

  abbrev resumed : List ℕ
  resumed = inputs_of (texts_by text plans) two node

  abbrev calls : ℕ → Call
  calls = calls_of inputs

  abbrev restart : Restart
  restart = restart_with node after resumed

  before : CallsConnect words m faulty calls begins after
  before =
      connect words lines text law m plans stated faulty one one_count fed_one begins after
      (λ v correct. enough m faulty meanwhile node after too right starts sent begins rounds r v)
      (λ i v u lt correct u_correct different.
      wrote_first m faulty meanwhile node after too right starts sent begins rounds r i v u lt
      correct u_correct)

  all : CallsConnect words m meanwhile calls begins (after + rounds)
  all =
      connect words lines text law m plans stated meanwhile one one_count
      (fed_meanwhile m faulty meanwhile node too one one_count fed_one) begins (after + rounds)
      (λ v correct.
      let is = count_other m faulty meanwhile node after too right starts sent begins rounds r v
      correct in omega (arith, is))
      (λ i v u lt correct u_correct different.
      wrote_all m faulty meanwhile node after too right starts sent begins rounds r i v u lt
      correct u_correct)

  same_calls : (v : ℕ) (b : Bool) → (v == node) ≡ b
      → cond b (whole resumed) (calls v) ≡ calls_of (inputs_of (texts_by text plans) two) v
  same_calls v true it =
      ap (λ u. whole (inputs_of (texts_by text plans) two u)) (sym (eqb-true v node it))
  same_calls v false is =
      ap (λ (s : State). whole (input_with (text (plans v) v s) (one.packets v)))
      (starts_second m faulty meanwhile node after too right starts sent begins rounds r v is)
      ∙ ap (λ (ps : List (List (List ℕ))).
      whole (input_with (text (plans v) v (two.starts v)) ps))
      (packets_second m faulty meanwhile node after too right starts sent begins rounds r v is)

  rest : CallsConnect words m faulty (calls_after restart calls) (begins_after restart begins)
      rounds
  rest =
      connect_same words m faulty (calls_of (inputs_of (texts_by text plans) two))
      (calls_after restart calls) later rounds (λ v. same_calls v (v == node) refl)
      (connect words lines text law m plans stated faulty two two_count fed_two later rounds
      (λ v correct. omega arith)
      (λ i v u lt correct u_correct different. r.restart.rest.wrote i v u lt u_correct))

  -- ---- the last cell, and the first

  last_cell : cell_written words m calls (begins node + after) node
      ≡ Some (written (m.fields node) state)
  last_cell =
      wrote words lines text law m plans stated faulty one one_count fed_one (begins node + after)
      node (enough m faulty meanwhile node after too right starts sent begins rounds r node) right
      ∙ ap (λ (s : State). Some (written (m.fields node) s))
      (old_last m faulty meanwhile node after too right starts sent begins rounds r)

  first_cell : cell_written words m (calls_after restart calls) 0 node
      ≡ Some (written (m.fields node) state)
  first_cell =
      ap (λ (c : Call). cell_number 0 (text_of words c)) (same_calls node (node == node) refl)
      ∙ wrote words lines text law m plans stated faulty two two_count fed_two 0 node (omega arith)
      right
      ∙ ap (λ (s : State). Some (written (m.fields node) s))
      (begun_last m faulty meanwhile node after too right starts sent begins rounds r)

  is_state : IsState m node state
  is_state =
      behind_is_state m is_sound node right.0 (r.before.nodes.starts node)
      (take (begins node + after) (r.before.nodes.packets node)) (r.before.are.starts node right)

  last_back : state ≡ state_written words m calls (begins node + after) node
  last_back =
      sym (ap (λ c. read (m.fields node) (unwrap_or c [])) last_cell
      ∙ reads_back m is_sound node right.0 state is_state)

  goes_on : header_of words (whole resumed)
      ≡ Ok (header_stated (lines (plans node)) (plans node) node
      (state_written words m calls (begins node + after) node))
  goes_on =
      begin words lines text law m plans stated faulty two two_count fed_two node right
      ∙ ap (λ (s : State). Ok (header_stated (lines (plans node)) (plans node) node s))
      (begun_last m faulty meanwhile node after too right starts sent begins rounds r
      ∙ last_back)

  locked : IsToleratedBy m faulty → m.bound ≤ after
      → IsLocked m faulty (states_written words m calls begins after)
  locked borne le =
      let kept =
      connected_count words served m faulty borne (node, right) calls begins after before in
      (kept.stays m.bound le (kept.locks le)).locked after le (omega arith)

  -- ---- what is given

  given_one : (t v u : ℕ) → IsCorrect m faulty v
      → cell_heard words (whole (inputs v)) t u ≡ cell_given one t v u
  given_one t v u correct =
      same_cell words lines text law m plans stated faulty one one_count fed_one t v u correct

  given_two : (t u : ℕ) → cell_heard words (whole resumed) t u ≡ cell_given two t node u
  given_two t u =
      same_cell words lines text law m plans stated faulty two two_count fed_two t node u right

  -- ---- they are bytes

  module _ (fits : AllFit m sent) where
    fit_two : (v : ℕ) → PacketsFit (two.packets v)
    fit_two v =
        connected_fit m fit_states faulty _ r.restart.sent_later later rounds
        (r.restart.fit fit_states fits) r.restart.rest v

    fit_by : (v : ℕ) (b : Bool) → PacketsFit (cond b (r.before.nodes.packets v) (two.packets v))
    fit_by v true =
        connected_fit m fit_states faulty starts sent begins after fits r.before v
    fit_by v false = fit_two v

    inputs_bytes : (v : ℕ) → AreBytes (inputs v)
    inputs_bytes v =
        are_bytes words lines text law m plans stated faulty one one_count fed_one v
        (fit_by v (v == node))

    resumed_bytes : AreBytes resumed
    resumed_bytes =
        are_bytes words lines text law m plans stated faulty two two_count fed_two node
        (fit_two node)

  inputs_resume : InputsResume words lines m plans faulty meanwhile node after starts sent begins
      rounds
  inputs_resume = record {
    inputs = inputs;
    resumed = resumed;
    in_bytes = λ fits v correct. inputs_bytes fits v;
    resumed_in_bytes = resumed_bytes;
    before = before;
    all = all;
    rest = rest;
    begin = begin words lines text law m plans stated faulty one one_count fed_one;
    goes_on = goes_on;
    handed = first_cell ∙ sym last_cell;
    locked = locked;
    given = λ t v u lt correct ult is.
        given_one t v u (correct_too m faulty meanwhile node too v correct)
        ∙ cell_second m faulty meanwhile node after too right starts sent begins rounds r t v u
        correct
        ∙ r.restart.given t v u lt correct ult is;
    given_before = λ t u lt ult is.
        given_one t node u right
        ∙ cell_first m faulty meanwhile node after too right starts sent begins rounds r t node u lt
        right ult (node == node) refl
        ∙ r.before.given t node u lt ult (inr is);
    given_resumed = λ i u lt ult is. given_two i u ∙ r.restart.given_anew i u lt ult is;
    ends = λ v correct.
        ends words lines text law m plans stated faulty one one_count fed_one v
        (correct_too m faulty meanwhile node too v correct)
        ∙ ap (λ n. Ok n)
        (count_other m faulty meanwhile node after too right starts sent begins rounds r v
        correct);
    ends_before =
        ends words lines text law m plans stated faulty one one_count fed_one node right
        ∙ ap (λ n. Ok n)
        (count_is m faulty meanwhile node after too right starts sent begins rounds r);
    ends_resumed =
        ends words lines text law m plans stated faulty two two_count fed_two node right
        ∙ ap (λ n. Ok n)
        (later_is m faulty meanwhile node after too right starts sent begins rounds r);
  }

pub any_resume : {Reader Plan Premise : Type 0} (words : Words Reader Plan Premise)
    (Accepted : Plan → Type 0) → HeadersAreOfMachines words Accepted → (lines : Plan → ℕ)
    (text : Plan → (v : ℕ) → State → List ℕ) → AreWritten words Accepted lines text
    → AnyInputsResume words lines Accepted
any_resume words Accepted served lines text law m plans stated faulty meanwhile node after too right
    starts sent begins rounds few begun =
    inputs_resume words served lines text law m plans stated faulty meanwhile node after too right
    starts sent begins rounds few begun
    (any_resumption_connects m (sound words lines text law m plans stated) faulty meanwhile node
    after too right starts sent begins rounds begun)
