-- Inputs of nodes over packets: the text of each one's header, and its packets after it.
use Rattle.std.proofs.Common.{◌≡◌, ◌≢◌, ℕ, ◌+◌, ◌<◌, ◌≤◌, Bool, true, List, [], ◌++◌, length}
use Rattle.std.proofs.Common.{get_or, Some, Result, Ok, refl, sym, ap, subst, ◌∙◌, arith}
use Rattle.std.specs.Prelude.{nat_lt}
use Rattle.std.specs.List.{flat_map}
use Rattle.texts.specs.Lines.{lines_of}
use Rattle.texts.specs.Limits.{room_of, behind_lines, longest_input}
use Rattle.sync_types.specs.States.{State}
use Rattle.state_codec.specs.Writing.{written}
use Rattle.machines.specs.Machines.{Machine, IsState}
use Rattle.machines.specs.Laws.{IsSound}
use Rattle.node_words.specs.HeaderParts.{HeaderOf, header_in}
use Rattle.node_stepper.specs.Packets.{Packets, packets_of, whole as all_whole, most_packets}
use Rattle.node_stepper.specs.Laws.{packet_text, AreFull}
use Rattle.node_stepper.proofs.ReadBack.{packets_back}
use Rattle.node_stepper.specs.Nodes.{node_text}
use Rattle.node_stepper.specs.Bytes.{AreBytes, StatesFit}
use Rattle.node_stepper.specs.Cells.{cell_number}
use Rattle.node_stepper.specs.NodeRuns.{Nodes, cell_given, IsCorrect, state_at}
use Rattle.node_stepper.proofs.Written.{node_writes_states}
use Rattle.node_words.specs.declared.errors.NodeError.{NodeError}
use Rattle.node_words.specs.Constructions.{Words}
use Rattle.node_words.specs.NodeAnswers.{Outcome, packets_for, served_outcome, behind_header}
use Rattle.node_words.specs.NodeAnswers.{node_outcome}
use Rattle.node_words.specs.Calls.{Call, whole, header_of, packets_behind, packets_in}
use Rattle.node_words.specs.Calls.{cell_heard, IsOfNode}
use Rattle.node_words.specs.CallWindows.{cell_written, AreCalls, CallsConnect}
use Rattle.node_words.specs.Inputs.{header_stated, AreOneMachine}
use Rattle.node_words.specs.RestartInputs.{calls_of}
use Rattle.node_words.proofs.InputBytes.{PacketsFit, input_bytes}

-- A construction whose plans are sound machines with states that fit into cells, and the text of
-- each header, which is bytes, has so many lines, and is read as that header at the beginning of
-- any text.
pub record AreWritten {Reader Plan Premise : Type 0} (words : Words Reader Plan Premise)
    (Accepted : Plan → Type 0) (lines : Plan → ℕ) (text : Plan → (v : ℕ) → State → List ℕ)
    : Type 0 where
  pub sound : (plan : Plan) → Accepted plan → IsSound (words.machine plan)
  pub short : (plan : Plan) → Accepted plan → StatesFit (words.machine plan)
  pub bytes : (plan : Plan) (v : ℕ) (s : State) → AreBytes (text plan v s)
  pub read : (plan : Plan) → Accepted plan → (v : ℕ) → v < (words.machine plan).nodes
      → (s : State) → IsState (words.machine plan) v s → (longer : Bool) (rest : List ℕ)
      → (header_in words.part (room_of longer longest_input) (lines_of (text plan v s ++ rest))
      ≡ Ok (header_stated (lines plan) plan v s))
      × (behind_lines (lines plan) (text plan v s ++ rest) ≡ rest)

-- Each correct node begins in a state of its own, and has exactly so many packets, not too many,
-- with a cell of each node.
pub record AreFed (m : Machine) (faulty : List ℕ) (nodes : Nodes) (count : ℕ → ℕ) : Type 0 where
  pub starts : (v : ℕ) → IsCorrect m faulty v → IsState m v (nodes.starts v)
  pub long : (v : ℕ) → IsCorrect m faulty v → length (nodes.packets v) ≡ count v
  pub full : (v : ℕ) → IsCorrect m faulty v → AreFull m.nodes (nodes.packets v)
  pub few : (v : ℕ) → IsCorrect m faulty v → count v ≤ most_packets

abbrev pub input_with : (header : List ℕ) (packets : List (List (List ℕ))) → List ℕ
input_with header packets = header ++ flat_map packet_text packets

-- the header of each node, whose plan is its own
abbrev pub texts_by : {Plan : Type 0} → (text : Plan → (v : ℕ) → State → List ℕ)
    → (plans : ℕ → Plan) → (v : ℕ) → State → List ℕ
texts_by text plans v s = text (plans v) v s

abbrev pub inputs_of : (text : (v : ℕ) → State → List ℕ) → Nodes → ℕ → List ℕ
inputs_of text nodes v = input_with (text v (nodes.starts v)) (nodes.packets v)

-- calls that are the same connect as these
pub connect_same : {Reader Plan Premise : Type 0} (words : Words Reader Plan Premise) (m : Machine)
    (faulty : List ℕ) (calls others : ℕ → Call) (begins : ℕ → ℕ) (rounds : ℕ)
    → ((v : ℕ) → others v ≡ calls v) → CallsConnect words m faulty calls begins rounds
    → CallsConnect words m faulty others begins rounds
connect_same words m faulty calls others begins rounds same is = record {
  are = record {
    headers = λ v correct. subst (IsOfNode words m v) (sym (same v)) (is.are.headers v correct);
    enough = λ v correct.
        subst (λ (c : Call). begins v + rounds ≤ length (packets_in words c)) (sym (same v))
        (is.are.enough v correct);
  };
  cells = λ i v u lt correct other different.
      ap (λ (c : Call). cell_written words m (λ w. c) (begins u + i) u) (same u)
      ∙ is.cells i v u lt correct other different
      ∙ ap (λ (c : Call). Some (cell_heard words c (begins v + i) u)) (sym (same v));
}

module _ {Reader Plan Premise : Type 0} (words : Words Reader Plan Premise)
    {Accepted : Plan → Type 0} (lines : Plan → ℕ) (text : Plan → (v : ℕ) → State → List ℕ)
    (law : AreWritten words Accepted lines text) (m : Machine) (plans : ℕ → Plan)
    (stated : AreOneMachine words Accepted m plans) where
  pub sound : IsSound m
  sound = subst IsSound (stated.machine 0) (law.sound (plans 0) (stated.accepted 0))

  pub short : StatesFit m
  short = subst StatesFit (stated.machine 0) (law.short (plans 0) (stated.accepted 0))

  -- ---- the input of one node

  module _ (v : ℕ) (lt : v < m.nodes) (s : State) (is : IsState m v s)
      (packets : List (List (List ℕ))) (full : AreFull m.nodes packets)
      (few : length packets ≤ most_packets) where
    abbrev plan : Plan
    plan = plans v

    abbrev input : List ℕ
    input = input_with (text plan v s) packets

    abbrev header : HeaderOf Plan
    header = header_stated (lines plan) plan v s

    read : (longer : Bool)
        → (header_in words.part (room_of longer longest_input) (lines_of input) ≡ Ok header)
        × (behind_lines (lines plan) input ≡ flat_map packet_text packets)
    read longer =
        law.read plan (stated.accepted v) v
        (subst (λ (k : Machine). v < k.nodes) (sym (stated.machine v)) lt) s
        (subst (λ (k : Machine). IsState k v s) (sym (stated.machine v)) is) longer
        (flat_map packet_text packets)

    header_is : header_of words (whole input) ≡ Ok header
    header_is = (read (nat_lt longest_input (length input))).0

    abbrev all : Packets
    all = record { cells = packets; ending = all_whole (0 + length packets) }

    behind_is : packets_for words header (behind_lines (lines plan) input) ≡ all
    behind_is =
        ap (packets_of (words.machine plan).nodes most_packets 0) (read true).1
        ∙ ap (λ (k : Machine). packets_of k.nodes most_packets 0 (flat_map packet_text packets))
        (stated.machine v)
        ∙ packets_back m.nodes packets most_packets 0 (omega (arith, lt)) full few

    packets_are : packets_in words (whole input) ≡ packets
    packets_are =
        ap (packets_behind words input) header_is ∙ ap (λ (p : Packets). p.cells) behind_is

    outcome_is : node_outcome words input ≡ served_outcome words header all
    outcome_is =
        ap (behind_header words input) header_is ∙ ap (served_outcome words header) behind_is

  -- ---- the inputs of all nodes

  module _ (faulty : List ℕ) (nodes : Nodes) (count : ℕ → ℕ) (fed : AreFed m faulty nodes count)
    where
      abbrev inputs : ℕ → List ℕ
      inputs = inputs_of (texts_by text plans) nodes

      few_packets : (v : ℕ) → IsCorrect m faulty v → length (nodes.packets v) ≤ most_packets
      few_packets v correct = omega (arith, fed.long v correct, fed.few v correct)

      pub begin : (v : ℕ) → IsCorrect m faulty v → header_of words (whole (inputs v))
          ≡ Ok (header_stated (lines (plans v)) (plans v) v (nodes.starts v))
      begin v correct =
          header_is v correct.0 (nodes.starts v) (fed.starts v correct) (nodes.packets v)
          (fed.full v correct) (few_packets v correct)

      same_packets : (v : ℕ) → IsCorrect m faulty v
          → packets_in words (whole (inputs v)) ≡ nodes.packets v
      same_packets v correct =
          packets_are v correct.0 (nodes.starts v) (fed.starts v correct) (nodes.packets v)
          (fed.full v correct) (few_packets v correct)

      pub same_cell : (t v u : ℕ) → IsCorrect m faulty v
          → cell_heard words (whole (inputs v)) t u ≡ cell_given nodes t v u
      same_cell t v u correct =
          ap (λ (ps : List (List (List ℕ))). get_or (get_or ps t []) u []) (same_packets v correct)

      outcome : (v : ℕ) → IsCorrect m faulty v → node_outcome words (inputs v)
          ≡ served_outcome words
          (header_stated (lines (plans v)) (plans v) v (nodes.starts v))
          (record {
            cells = nodes.packets v;
            ending = all_whole (0 + length (nodes.packets v));
          })
      outcome v correct =
          outcome_is v correct.0 (nodes.starts v) (fed.starts v correct) (nodes.packets v)
          (fed.full v correct) (few_packets v correct)

      -- they are bytes, if their packets fit into cells
      pub are_bytes : (v : ℕ) → PacketsFit (nodes.packets v) → AreBytes (inputs v)
      are_bytes v fit =
          input_bytes (texts_by text plans v (nodes.starts v)) (nodes.packets v)
          (law.bytes (plans v) v (nodes.starts v)) fit

      -- each writes its states
      pub wrote : (t v : ℕ) → t ≤ count v → IsCorrect m faulty v
          → cell_written words m (calls_of inputs) t v
          ≡ Some (written (m.fields v) (state_at m nodes t v))
      wrote t v le correct =
          ap (λ (o : Outcome Premise). cell_number t o.text) (outcome v correct)
          ∙ ap (λ (k : Machine).
          cell_number t (node_text k v (nodes.starts v) (nodes.packets v))) (stated.machine v)
          ∙ node_writes_states m v (nodes.starts v) (nodes.packets v) t
          (omega (arith, fed.long v correct, le))

      -- and answers all its packets
      pub ends : (v : ℕ) → IsCorrect m faulty v → (node_outcome words (inputs v)).ended
          ≡ Ok (count v)
      ends v correct =
          let counted : 0 + length (nodes.packets v) ≡ count v =
          omega (arith, fed.long v correct) in
          ap (λ (o : Outcome Premise). o.ended) (outcome v correct)
          ∙ ap (λ n. let r : Result ℕ (NodeError Premise) = Ok n in r) counted

      module _ (begins : ℕ → ℕ) (rounds : ℕ)
          (enough : (v : ℕ) → IsCorrect m faulty v → begins v + rounds ≤ count v) where
        pub are_calls : AreCalls words m faulty (calls_of inputs) begins rounds
        are_calls = record {
          headers = λ v correct. record {
            header = header_stated (lines (plans v)) (plans v) v (nodes.starts v);
            is = begin v correct;
            names = stated.machine v;
            id = refl;
          };
          enough = λ v correct.
              let same =
              ap (λ (ps : List (List (List ℕ))). length ps) (same_packets v correct) in
              omega (arith, same, fed.long v correct, enough v correct);
        }

        -- a cell that is given as its node wrote it
        pub cell_is : (i v u : ℕ) → i < rounds → IsCorrect m faulty v → IsCorrect m faulty u
            → cell_given nodes (begins v + i) v u
            ≡ written (m.fields u) (state_at m nodes (begins u + i) u)
            → cell_written words m (calls_of inputs) (begins u + i) u
            ≡ Some (cell_heard words (calls_of inputs v) (begins v + i) u)
        cell_is i v u lt v_correct u_correct is =
            wrote (begins u + i) u (omega (arith, lt, enough u u_correct)) u_correct
            ∙ ap (λ (cell : List ℕ). Some cell)
            (sym (same_cell (begins v + i) v u v_correct ∙ is))

        pub connect : ((i v u : ℕ) → i < rounds → IsCorrect m faulty v → IsCorrect m faulty u
            → u ≢ v → cell_given nodes (begins v + i) v u
            ≡ written (m.fields u) (state_at m nodes (begins u + i) u))
            → CallsConnect words m faulty (calls_of inputs) begins rounds
        connect given = record {
          are = are_calls;
          cells = λ i v u lt v_correct u_correct other.
              cell_is i v u lt v_correct u_correct (given i v u lt v_correct u_correct other);
        }
