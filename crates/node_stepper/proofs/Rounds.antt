-- Nodes that say bytes to one another in rounds are nodes over packets.
use Rattle.std.proofs.Common.{◌≡◌, ℕ, zero, suc, ◌+◌, ◌<◌, ◌≤◌, List, [], length, map, take}
use Rattle.std.proofs.Common.{unwrap_or, get_or, add-one, refl, sym, ap, ◌∙◌, subst, arith}
use Rattle.std.specs.List.{range_with_len}
use Rattle.std.proofs.lemmas.List.{take_more}
use Rattle.std.proofs.lemmas.List.FromFn.{length-map-range_with_len, get_or-map-range_with_len}
use Rattle.sync_types.specs.States.{State, zero_state}
use Rattle.construction.specs.Steps.{state_of}
use Rattle.construction.specs.Runs.{is_in}
use Rattle.state_codec.specs.Reading.{read}
use Rattle.machines.specs.Machines.{Machine, IsState, IsToleratedBy, IsLocked}
use Rattle.machines.specs.Laws.{IsSound}
use Rattle.node_stepper.specs.Nodes.{state_after, state_behind, node_text}
use Rattle.node_stepper.proofs.NodeTexts.{state_push}
use Rattle.node_stepper.specs.Cells.{cell_number}
use Rattle.node_stepper.specs.NodeRuns.{Nodes, cell_given, IsCorrect, state_at, state_in, states_in}
use Rattle.node_stepper.specs.NodeRuns.{AreConnected}
use Rattle.node_stepper.specs.Losses.{AreHeard}
use Rattle.node_stepper.specs.RunLaws.{RunThrough, StayLockedThrough}
use Rattle.node_stepper.specs.Rounds.{packet_given, state_said, states_said, StepInRounds}
use Rattle.node_stepper.specs.Rounds.{AreInRounds}
use Rattle.node_stepper.specs.Rounds.{AreInLossyRounds, SayRun, NodesInRoundsRun}
use Rattle.node_stepper.specs.Rounds.{NodesInRoundsStayLocked}
use Rattle.node_stepper.proofs.Follows.{locked_elsewhere, stay_elsewhere}
use Rattle.node_stepper.proofs.Heard.{heard_nodes_stay_locked}
use Rattle.node_stepper.proofs.Losses.{not_so}
use Rattle.node_stepper.proofs.Runs.{nodes_run}
use Rattle.node_stepper.proofs.Settled.{settle_through, lock_through, stay_through}
use Rattle.node_stepper.proofs.States.{read_is_state, reads_back, behind_is_state, same_heard}
use Rattle.node_stepper.proofs.Written.{node_writes_states}

-- a packet with these cells of the nodes is as good as that of what is given
pub given_same : (m : Machine) (v : ℕ) (s : State) (packet : List (List ℕ))
    (given : (u : ℕ) → List ℕ) → ((u : ℕ) → u < m.nodes → get_or packet u [] ≡ given u)
    → state_after m v s packet ≡ state_after m v s (packet_given m given)
given_same m v s packet given same =
    ap (m.step v) (same_heard m v s packet (packet_given m given)
    (λ u lt.
    same u lt
    ∙ sym (get_or-map-range_with_len given 0 m.nodes u u [] lt (omega arith))))

-- A node over packets says its states, cell by cell, and steps in rounds from a packet on.
module _ (m : Machine) (sound : IsSound m) (v : ℕ) (node : v < m.nodes) (start : State)
    (begun : IsState m v start) (packets : List (List (List ℕ))) (begins : ℕ) where
  abbrev state_behind_some : (t : ℕ) → State
  state_behind_some t = state_behind m v start (take t packets)

  abbrev said_by : (i : ℕ) → List ℕ
  said_by i = unwrap_or (cell_number (begins + i) (node_text m v start packets)) []

  said_is : (i : ℕ) → begins + i ≤ length packets
      → read (m.fields v) (said_by i) ≡ state_behind_some (begins + i)
  said_is i le =
      ap (λ cell. read (m.fields v) (unwrap_or cell []))
      (node_writes_states m v start packets (begins + i) le)
      ∙ reads_back m sound v node (state_behind_some (begins + i))
      (behind_is_state m sound v node start (take (begins + i) packets) begun)

  pub process_steps : (i : ℕ) → begins + i < length packets
      → read (m.fields v) (said_by (i + 1))
      ≡ state_after m v (read (m.fields v) (said_by i))
      (packet_given m (λ u. get_or (get_or packets (begins + i) []) u []))
  process_steps i lt =
      let next : begins + (i + 1) ≡ begins + i + 1 = omega arith in
      let packet : List (List ℕ) = get_or packets (begins + i) [] in
      said_is (i + 1) (omega (arith, lt))
      ∙ ap state_behind_some next
      ∙ ap (state_behind m v start) (take_more packets (begins + i) [] lt)
      ∙ state_push m v start (take (begins + i) packets) packet
      ∙ ap (λ (s : State). state_after m v s packet) (sym (said_is i (omega (arith, lt))))
      ∙ given_same m v (read (m.fields v) (said_by i)) packet (λ u. get_or packet u [])
      (λ u ult. refl)

module _ (m : Machine) (sound : IsSound m) (faulty : List ℕ) (rounds : ℕ)
    (said : (i v : ℕ) → List ℕ) (given : (i v u : ℕ) → List ℕ)
    (steps : StepInRounds m faulty rounds said given) where
  -- the packet of a round, and the nodes that these make
  abbrev packet : (v i : ℕ) → List (List ℕ)
  packet v i = packet_given m (given i v)

  abbrev state : (i v : ℕ) → State
  state i v = state_said m said i v

  abbrev pub nodes : Nodes
  nodes = record {
    starts = state 0;
    packets = λ v. map (packet v) (range_with_len 0 rounds);
  }

  abbrev pub from_start : ℕ → ℕ
  from_start v = 0

  many : (v : ℕ) → length (nodes.packets v) ≡ rounds
  many v = length-map-range_with_len (packet v) 0 rounds

  packet_is : (i v : ℕ) → i < rounds → get_or (nodes.packets v) i [] ≡ packet v i
  packet_is i v early = get_or-map-range_with_len (packet v) 0 rounds i i [] early (omega arith)

  -- what a correct node says is its state after as many packets
  says_next : (i v : ℕ) → i < rounds → IsCorrect m faulty v → state_at m nodes i v ≡ state i v
      → state_at m nodes (i + 1) v ≡ state (i + 1) v
  says_next i v early correct is =
      ap (state_behind m v (state 0 v))
      (take_more (nodes.packets v) i [] (omega (arith, early, many v)))
      ∙ state_push m v (state 0 v) (take i (nodes.packets v)) (get_or (nodes.packets v) i [])
      ∙ ap (state_after m v (state_at m nodes i v)) (packet_is i v early)
      ∙ ap (λ (s : State). state_after m v s (packet v i)) is
      ∙ sym (steps i v early correct)

  says : (i v : ℕ) → i ≤ rounds → IsCorrect m faulty v → state_at m nodes i v ≡ state i v
  says zero v early correct = refl
  says (suc i) v early correct =
      let lt : i < rounds = omega (arith, early) in
      subst (λ k. state_at m nodes k v ≡ state k v) (add-one i)
      (says_next i v lt correct (says i v (omega (arith, early)) correct))

  cell_is : (i v u : ℕ) → i < rounds → u < m.nodes → cell_given nodes (0 + i) v u ≡ given i v u
  cell_is i v u early ult =
      let e : 0 + i ≡ i = omega arith in
      ap (λ k. cell_given nodes k v u) e
      ∙ ap (λ (p : List (List ℕ)). get_or p u []) (packet_is i v early)
      ∙ get_or-map-range_with_len (given i v) 0 m.nodes u u [] ult (omega arith)

  -- a cell that is given as it is said is read as the state of its sender
  pub told_is : (i v u : ℕ) → i < rounds → IsCorrect m faulty u → given i v u ≡ said i u
      → read (m.fields u) (cell_given nodes (0 + i) v u) ≡ state_in m nodes from_start i u
  told_is i v u early correct told =
      let e : i ≡ 0 + i = omega arith in
      ap (read (m.fields u)) (cell_is i v u early correct.0 ∙ told)
      ∙ sym (says i u (omega (arith, early)) correct)
      ∙ ap (λ k. state_at m nodes k u) e

  pub begin : (v : ℕ) → IsCorrect m faulty v → IsState m v (nodes.starts v)
  begin v correct = read_is_state m sound v correct.0 (said 0 v)

  pub enough : (v : ℕ) → IsCorrect m faulty v → 0 + rounds ≤ length (nodes.packets v)
  enough v correct = omega (arith, many v)

  pub same : (i v : ℕ) → i ≤ rounds → IsCorrect m faulty v
      → state_of (states_in m nodes from_start i) v ≡ state_of (states_said m said i) v
  same i v early correct =
      let e : 0 + i ≡ i = omega arith in
      get_or-map-range_with_len (state_in m nodes from_start i) 0 m.nodes v v (zero_state 0)
      correct.0 (omega arith)
      ∙ ap (λ k. state_at m nodes k v) e
      ∙ says i v early correct
      ∙ sym (get_or-map-range_with_len (state i) 0 m.nodes v v (zero_state 0) correct.0
      (omega arith))

  pub back : (i v : ℕ) → i ≤ rounds → IsCorrect m faulty v
      → state_of (states_said m said i) v ≡ state_of (states_in m nodes from_start i) v
  back i v early correct = sym (same i v early correct)

-- ---- the laws

module _ (m : Machine) (sound : IsSound m) (faulty : List ℕ) (borne : IsToleratedBy m faulty)
    (rounds : ℕ) (said : (i v : ℕ) → List ℕ) (given : (i v u : ℕ) → List ℕ) where
  module _ (are : AreInRounds m faulty rounds said given) where
    abbrev own : Nodes
    own = nodes m sound faulty rounds said given are.steps

    connected : AreConnected m faulty own (λ v. 0) rounds
    connected = record {
      starts = begin m sound faulty rounds said given are.steps;
      enough = enough m sound faulty rounds said given are.steps;
      cells = λ i v u early correct other apart.
          told_is m sound faulty rounds said given are.steps i v u early other
          (are.told i v u early correct other apart);
    }

    abbrev through : RunThrough m faulty (states_in m own (λ v. 0)) rounds
    through = nodes_run m sound faulty own (λ v. 0) rounds connected

    said_run : RunThrough m faulty (states_said m said) rounds
    said_run = record {
      run = through.run;
      is = through.is;
      long = through.long;
      states = λ i v le correct.
          through.states i v le correct
          ∙ same m sound faulty rounds said given are.steps i v le correct;
    }

    pub say_run : SayRun m faulty rounds said
    say_run = record {
      run = said_run;
      settles = settle_through m sound faulty (states_said m said) rounds said_run borne;
      locks = lock_through m sound faulty (states_said m said) rounds said_run borne;
      stays = stay_through m sound faulty (states_said m said) rounds said_run borne;
    }

  module _ (are : AreInLossyRounds m faulty rounds said given) where
    abbrev heard_own : Nodes
    heard_own = nodes m sound faulty rounds said given are.steps

    heard : AreHeard m faulty heard_own (λ v. 0) rounds
    heard = record {
      starts = begin m sound faulty rounds said given are.steps;
      enough = enough m sound faulty rounds said given are.steps;
      missed = are.missed;
      are = are.are;
      cells = λ i v u early correct ult not_missed apart.
          told_is m sound faulty rounds said given are.steps i v u early (
            ult,
            not_so (is_in faulty u) (is_in (are.missed i v) u)
                ((are.are i v early correct).faulty_too u) not_missed,
          )
          (are.told i v u early correct ult not_missed apart);
    }

    pub stay_locked_heard : (from : ℕ) → from ≤ rounds → IsLocked m faulty (states_said m said from)
        → StayLockedThrough m faulty (states_said m said) from rounds
    stay_locked_heard from le locked =
        stay_elsewhere m faulty (states_in m heard_own (λ v. 0)) (states_said m said) rounds
        (same m sound faulty rounds said given are.steps) from
        (heard_nodes_stay_locked m sound faulty borne heard_own (λ v. 0) rounds heard from le
        (locked_elsewhere m faulty (states_said m said) (states_in m heard_own (λ v. 0)) rounds
        (back m sound faulty rounds said given are.steps) from le locked))

pub nodes_in_rounds_run : NodesInRoundsRun
nodes_in_rounds_run m sound faulty borne rounds said given are =
    say_run m sound faulty borne rounds said given are

pub nodes_in_rounds_stay_locked : NodesInRoundsStayLocked
nodes_in_rounds_stay_locked m sound faulty borne rounds said given are from le locked =
    stay_locked_heard m sound faulty borne rounds said given are from le locked
