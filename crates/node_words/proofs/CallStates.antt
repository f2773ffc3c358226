-- What calls of a node write, as states of their nodes.
use Rattle.std.proofs.Common.{◌≡◌, ℕ, ◌+◌, ◌<◌, ◌≤◌, List, [], Option, Some, unwrap_or}
use Rattle.std.proofs.Common.{take, Result, Ok, Err, refl, sym, ap, subst, ◌∙◌, arith}
use Rattle.std.specs.Prelude.{IfOk, IsSome}
use Rattle.std.proofs.lemmas.List.FromFn.{get_or-map-range_with_len}
use Rattle.texts.specs.Limits.{room_in, behind_lines, longest_input}
use Rattle.sync_types.specs.States.{State, zero_state}
use Rattle.construction.specs.Steps.{state_of}
use Rattle.state_codec.specs.Reading.{read}
use Rattle.state_codec.specs.Writing.{written}
use Rattle.machines.specs.Machines.{Machine, IsState}
use Rattle.machines.specs.Laws.{IsSound}
use Rattle.node_words.specs.HeaderParts.{HeaderOf}
use Rattle.node_stepper.specs.Nodes.{node_text}
use Rattle.node_stepper.specs.Cells.{cell_number}
use Rattle.node_stepper.specs.NodeRuns.{Nodes, cell_given, IsCorrect, SomeIsCorrect, state_at}
use Rattle.node_stepper.specs.NodeRuns.{state_in, states_in}
use Rattle.node_stepper.proofs.States.{reads_back, behind_is_state}
use Rattle.node_stepper.proofs.Written.{node_writes_states}
use Rattle.node_words.specs.Constructions.{Words}
use Rattle.node_words.specs.NodeAnswers.{packets_for, cells_for, cells_so_far, behind_header}
use Rattle.node_words.specs.Calls.{Call, whole, failed, bytes_of, header_of, packets_behind}
use Rattle.node_words.specs.Calls.{packets_in, cell_heard, text_of, IsOfNode}
use Rattle.node_words.specs.HeaderPromises.{IsOfMachine, HeadersAreOfMachines}
use Rattle.node_words.specs.CallWindows.{cell_written, state_written, states_written, AreCalls}

same_some : (a b : List ℕ) → Some a ≡ Some b → a ≡ b
same_some a b e = cc

some_is : (o : Option (List ℕ)) (a : List ℕ) → o ≡ Some a → IsSome o
some_is o a e = subst IsSome (sym e) refl

-- the state of a header
pub start_by : {Plan E : Type 0} → Result (HeaderOf Plan) E → State
start_by (Err refused) = zero_state 0
start_by (Ok h) = h.node.state

ok_has : {A E : Type 0} (P : A → Type 0) (r : Result A E) (a : A) → r ≡ Ok a → IfOk r P → P a
ok_has P r a e has = subst (λ x. IfOk x P) e has

-- ---- one call

module _ {Reader Plan Premise : Type 0} (words : Words Reader Plan Premise) where
  module _ (call : Call) (h : HeaderOf Plan) (is : header_of words call ≡ Ok h) where
    cells_are : (c : Call) → header_of words c ≡ Ok h
        → text_of words c
        ≡ cells_for words h (packets_for words h (behind_lines h.lines (bytes_of c)))
    cells_are (whole input) e = ap (λ r. (behind_header words input r).text) e
    cells_are (failed seen) e = ap (cells_so_far words seen) e

    text_is : text_of words call
        ≡ node_text (words.machine h.plan) h.node.id (start_by (header_of words call))
        (packets_in words call)
    unfolding start_by
    text_is =
        cells_are call is
        ∙ sym (ap (λ r.
        node_text (words.machine h.plan) h.node.id (start_by r)
        (packets_behind words (bytes_of call) r)) is)

    pub start_is : start_by (header_of words call) ≡ h.node.state
    unfolding start_by
    start_is = ap start_by is

  module _ {Accepted : Plan → Type 0} (law : HeadersAreOfMachines words Accepted) (m : Machine)
      (v : ℕ) (call : Call) (is : IsOfNode words m v call) where
    of_machine : (c : Call) → IfOk (header_of words c) (IsOfMachine words Accepted)
    of_machine (whole input) = law.all (room_in longest_input input) input
    of_machine (failed seen) = law.whole seen

    pub header_is : IsOfMachine words Accepted is.header
    header_is =
        ok_has (IsOfMachine words Accepted) (header_of words call) is.header is.is (of_machine call)

    pub is_sound : IsSound m
    is_sound = subst IsSound is.names header_is.sound

    pub node_text_is : text_of words call
        ≡ node_text m v (start_by (header_of words call)) (packets_in words call)
    node_text_is =
        let start = start_by (header_of words call) in
        text_is call is.header is.is
        ∙ ap (λ (k : Machine). node_text k is.header.node.id start (packets_in words call)) is.names
        ∙ ap (λ (i : ℕ). node_text m i start (packets_in words call)) is.id

    pub start_is_state : IsState m v (start_by (header_of words call))
    start_is_state =
        let s = is.header.node.state in
        let of_m : IsState m is.header.node.id s =
        subst (λ (k : Machine). IsState k is.header.node.id s) is.names header_is.state in
        subst (IsState m v) (sym (start_is call is.header is.is))
        (subst (λ (i : ℕ). IsState m i s) is.id of_m)

-- ---- calls with packets for a window

module _ {Reader Plan Premise : Type 0} (words : Words Reader Plan Premise)
    {Accepted : Plan → Type 0} (law : HeadersAreOfMachines words Accepted) (m : Machine)
    (faulty : List ℕ)
    (some : SomeIsCorrect m faulty) (calls : ℕ → Call) (begins : ℕ → ℕ) (rounds : ℕ)
    (is : AreCalls words m faulty calls begins rounds) where
  abbrev pub nodes : Nodes
  nodes = record {
    starts = λ v. start_by (header_of words (calls v));
    packets = λ v. packets_in words (calls v);
  }

  pub sound : IsSound m
  sound = is_sound words law m some.0 (calls some.0) (is.headers some.0 some.1)

  -- a correct node's state after t packets
  abbrev state_of_call : (t v : ℕ) → State
  state_of_call t v = state_at m nodes t v

  pub start_is_one : (v : ℕ) → IsCorrect m faulty v → IsState m v (nodes.starts v)
  start_is_one v correct = start_is_state words law m v (calls v) (is.headers v correct)

  -- cell t is that of the state after t packets
  cell_is : (t v : ℕ) → t ≤ begins v + rounds → IsCorrect m faulty v
      → cell_written words m calls t v ≡ Some (written (m.fields v) (state_of_call t v))
  cell_is t v le correct =
      let enough = is.enough v correct in
      ap (cell_number t) (node_text_is words law m v (calls v) (is.headers v correct))
      ∙ node_writes_states m v (nodes.starts v) (nodes.packets v) t (omega arith)

  -- which is read as that state
  back_is : (t v : ℕ) → IsCorrect m faulty v
      → read (m.fields v) (written (m.fields v) (state_of_call t v)) ≡ state_of_call t v
  back_is t v correct =
      reads_back m sound v correct.0 (state_of_call t v)
      (behind_is_state m sound v correct.0 (nodes.starts v) (take t (nodes.packets v))
      (start_is_one v correct))

  -- a cell that is given, if it is one that is written
  pub given_is : (i v u : ℕ) → i < rounds → IsCorrect m faulty u
      → cell_written words m calls (begins u + i) u
      ≡ Some (cell_heard words (calls v) (begins v + i) u)
      → read (m.fields u) (cell_given nodes (begins v + i) v u) ≡ state_in m nodes begins i u
  given_is i v u lt correct same =
      ap (read (m.fields u))
      (same_some (cell_given nodes (begins v + i) v u)
      (written (m.fields u) (state_of_call (begins u + i) u))
      (sym same ∙ cell_is (begins u + i) u (omega arith) correct))
      ∙ back_is (begins u + i) u correct

  written_is : (t v : ℕ) → t ≤ begins v + rounds → IsCorrect m faulty v
      → state_written words m calls t v ≡ state_of_call t v
  written_is t v le correct =
      ap (λ o. read (m.fields v) (unwrap_or o [])) (cell_is t v le correct)
      ∙ back_is t v correct

  -- so what is written are the states of the nodes
  pub same_states : (i v : ℕ) → i ≤ rounds → IsCorrect m faulty v
      → state_of (states_in m nodes begins i) v
      ≡ state_of (states_written words m calls begins i) v
  same_states i v le correct =
      get_or-map-range_with_len (state_in m nodes begins i) 0 m.nodes v v (zero_state 0)
      correct.0 (omega arith)
      ∙ sym (written_is (begins v + i) v (omega arith) correct)
      ∙ sym (get_or-map-range_with_len (λ u. state_written words m calls (begins u + i) u) 0
      m.nodes v v (zero_state 0) correct.0 (omega arith))

  pub some_written : (t v : ℕ) → t ≤ begins v + rounds → IsCorrect m faulty v
      → IsSome (cell_written words m calls t v)
  some_written t v le correct =
      some_is (cell_written words m calls t v) _ (cell_is t v le correct)
