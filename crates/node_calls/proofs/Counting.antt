-- Nodes that step in rounds as the calls answer are nodes in rounds, which count.
use Rattle.std.proofs.Common.{◌≡◌, ℕ, zero, suc, ◌+◌, ◌<◌, ◌≤◌, cond, Bool, true, false, List, []}
use Rattle.std.proofs.Common.{◌∷◌, length, get_or, Result, Ok, Err, add-one, refl, sym, ap, ◌∙◌}
use Rattle.std.proofs.Common.{subst, arith}
use Rattle.std.specs.Prelude.{◌==◌}
use Rattle.std.proofs.lemmas.Bool.{eq-eqb, lt-ltb}
use Rattle.std.proofs.lemmas.List.FromFn.{get_or-map-range_with_len}
use Rattle.sync_types.specs.States.{State, zero_state}
use Rattle.state_codec.specs.Shapes.{Fields, bytes_in}
use Rattle.state_codec.specs.Reading.{read}
use Rattle.state_codec.specs.Writing.{written}
use Rattle.node_stepper.specs.Packets.{Ending, whole, cut, beyond, Packets, most_packets}
use Rattle.machines.specs.Machines.{Machine, IsToleratedBy}
use Rattle.node_calls.specs.declared.any_machines.AnyMachine.{AnyMachine}
use Rattle.node_calls.specs.Machines.{machine_of}
use Rattle.node_stepper.specs.Nodes.{state_after}
use Rattle.node_stepper.proofs.CellByCell.{written_size}
use Rattle.node_stepper.specs.NodeRuns.{IsCorrect}
use Rattle.node_stepper.specs.RunLaws.{CountThrough, StayLockedThrough}
use Rattle.node_stepper.specs.Rounds.{packet_given, state_said, states_said, StepInRounds, SayRun}
use Rattle.node_stepper.proofs.Rounds.{given_same, nodes_in_rounds_run}
use Rattle.node_stepper.proofs.Rounds.{nodes_in_rounds_stay_locked}
use Rattle.node_stepper.proofs.States.{read_is_state, reads_back, behind_is_state}
use Rattle.node_calls.specs.declared.errors.CallError.{CallError}
use Rattle.node_calls.specs.declared.errors.CallError.TheVariants as error
use Rattle.node_calls.specs.Counters.{counter_answer}
use Rattle.node_calls.specs.Answers.{packets_for, by_ending, bytes_behind, steps_over, step_in}
use Rattle.node_calls.specs.Answers.{step_answer, output_answer}
use Rattle.node_calls.specs.Counting.{cell_in, InRounds, CountFrom, StayLockedFrom, CountByBytes}
use Rattle.node_calls.specs.Counting.{NodesCount, LossyNodesCount}
use Rattle.node_calls.proofs.Counters.{sound_of}
use Rattle.node_calls.proofs.Packets.{as_many, only_one}

-- of what was answered: that the test held, and what stands after it
behind_test : {V : Type 0} (test : Bool) (answer : Result V CallError) (e : CallError) (v : V)
    → cond test answer (Err e) ≡ Ok v → (test ≡ true) × (answer ≡ Ok v)
behind_test true answer e v is = (refl, is)
behind_test false answer e v is = absurd cc

ended : (new bytes : List ℕ) (count : ℕ) (ending : Ending)
    → by_ending new ending ≡ Ok (count, bytes) → (ending ≡ whole count) × (bytes ≡ new)
ended new bytes count (whole n) is =
    let both : (count, bytes) ≡ (n, new) = cc in
    (ap (λ (p : ℕ × List ℕ). whole (p.0)) (sym both), ap (λ (p : ℕ × List ℕ). p.1) both)
ended new bytes count (cut packet sender) is = absurd cc
ended new bytes count beyond is = absurd cc

-- what calls answer of a node of a counter
module _ (text : List ℕ) (counter : AnyMachine) (is : counter_answer text ≡ Ok counter)
    (v : ℕ) (node : v < (machine_of counter).nodes) where
  abbrev m : Machine
  m = machine_of counter

  abbrev fields : Fields
  fields = m.fields v

  pub step_in_counter : (state packets : List ℕ)
      → step_answer text v state packets ≡ step_in v state packets m
  step_in_counter state packets = rw (is, lt-ltb v (m.nodes) node) refl

  output_is : (state : List ℕ) → length state ≡ bytes_in fields
      → output_answer text v state ≡ Ok (m.shows v (read fields state))
  output_is state long =
      rw (is, lt-ltb v (m.nodes) node, eq-eqb (length state) (bytes_in fields) long) refl

  -- the new bytes, after one packet
  new_bytes : (state packets new : List ℕ) → step_answer text v state packets ≡ Ok (1, new)
      → new ≡ written fields
      (state_after m v (read fields state) (get_or (packets_for m packets).cells 0 []))
  new_bytes state packets new answers =
      let all : Packets = packets_for m packets in
      let held = behind_test (length state == bytes_in fields) (steps_over v state m all)
      error.Length (1, new) (sym (step_in_counter state packets) ∙ answers) in
      let done = ended (bytes_behind m v state all.cells) new 1 all.ending held.1 in
      let one : length all.cells ≡ 1 =
      omega (arith, as_many (m.nodes) most_packets 0 1 packets done.0) in
      done.1 ∙ ap (bytes_behind m v state) (only_one all.cells [] one)

-- rounds of one node, which steps by calls
module _ (text : List ℕ) (counter : AnyMachine) (is : counter_answer text ≡ Ok counter)
    (v : ℕ) (node : v < (machine_of counter).nodes) (count : ℕ) (bytes packets : ℕ → List ℕ)
    (first : length (bytes 0) ≡ bytes_in ((machine_of counter).fields v))
    (steps : (t : ℕ) → t < count
    → step_answer text v (bytes t) (packets t) ≡ Ok (1, bytes (t + 1))) where
  abbrev k : Machine
  k = machine_of counter

  abbrev state : (t : ℕ) → State
  state t = read (k.fields v) (bytes t)

  abbrev packet : (t : ℕ) → List (List ℕ)
  packet t = get_or (packets_for k (packets t)).cells 0 []

  next : (t : ℕ) → t < count
      → bytes (t + 1) ≡ written (k.fields v) (state_after k v (state t) (packet t))
  next t early = new_bytes text counter is v node (bytes t) (packets t) (bytes (t + 1))
      (steps t early)

  next_state : (t : ℕ) → t < count → state (t + 1) ≡ state_after k v (state t) (packet t)
  next_state t early =
      let sound = sound_of text counter is in
      ap (read (k.fields v)) (next t early)
      ∙ reads_back k sound v node (state_after k v (state t) (packet t))
      (behind_is_state k sound v node (state t) (packet t ∷ [])
      (read_is_state k sound v node (bytes t)))

  long : (t : ℕ) → t ≤ count → length (bytes t) ≡ bytes_in (k.fields v)
  long zero early = first
  long (suc t) early =
      subst (λ i. length (bytes i) ≡ bytes_in (k.fields v)) (add-one t)
      (ap length (next t (omega (arith, early)))
      ∙ written_size (k.fields v) (state_after k v (state t) (packet t)))

  -- it steps in rounds
  pub caller_steps : (t : ℕ) → t < count
      → state (t + 1) ≡ state_after k v (state t) (packet_given k (cell_in k (packets t)))
  caller_steps t early =
      next_state t early
      ∙ given_same k v (state t) (packet t) (cell_in k (packets t)) (λ u lt. refl)

  -- and its calls answer what it shows
  pub caller_shows : (t : ℕ) → t ≤ count
      → output_answer text v (bytes t) ≡ Ok (k.shows v (state t))
  caller_shows t early = output_is text counter is v node (bytes t) (long t early)

-- rounds in which the correct nodes step, whatever they are given
pub record Stepping (text : List ℕ) (m : Machine) (faulty : List ℕ) (count : ℕ)
    (bytes packets : ℕ → ℕ → List ℕ) : Type 0 where
  pub long : (v : ℕ) → IsCorrect m faulty v → length (bytes 0 v) ≡ bytes_in (m.fields v)
  pub steps : (t v : ℕ) → t < count → IsCorrect m faulty v
      → step_answer text v (bytes t v) (packets t v) ≡ Ok (1, bytes (t + 1) v)

-- the cell of node u in the packet of node v in round t
abbrev pub told_in : Machine → (packets : ℕ → ℕ → List ℕ) → (t v u : ℕ) → List ℕ
told_in m packets t v u = cell_in m (packets t v) u

module _ (text : List ℕ) (counter : AnyMachine) (is : counter_answer text ≡ Ok counter)
    (faulty : List ℕ) (count : ℕ) (bytes packets : ℕ → ℕ → List ℕ)
    (rounds : Stepping text (machine_of counter) faulty count bytes packets) where
  abbrev all : Machine
  all = machine_of counter

  pub in_rounds : StepInRounds all faulty count bytes (told_in all packets)
  in_rounds t v early correct =
      caller_steps text counter is v correct.0 count (λ i. bytes i v) (λ i. packets i v)
      (rounds.long v correct) (λ i lt. rounds.steps i v lt correct) t early

  pub counted : (from : ℕ) → CountThrough all faulty (states_said all bytes) from count
      → CountFrom text all faulty count bytes from
  counted from counts = record {
    output = counts.output;
    shows = λ t v late early correct.
        caller_shows text counter is v correct.0 count (λ i. bytes i v) (λ i. packets i v)
        (rounds.long v correct) (λ i lt. rounds.steps i v lt correct) t early
        ∙ ap (λ (o : ℕ). let r : Result ℕ CallError = Ok o in r)
        (ap (all.shows v)
        (sym (get_or-map-range_with_len (state_said all bytes t) 0 all.nodes v v (zero_state 0)
        correct.0 (omega arith)))
        ∙ counts.shows t late early v correct.0 correct.1);
    grows = counts.grows;
  }

  pub stay_locked : (from : ℕ) → StayLockedThrough all faulty (states_said all bytes) from count
      → StayLockedFrom text all faulty count bytes from
  stay_locked from stays = record {
    locked = stays.locked;
    counts = counted from stays.counts;
  }

-- ---- the laws

module _ (text : List ℕ) (counter : AnyMachine) (is : counter_answer text ≡ Ok counter)
    (faulty : List ℕ) (borne : IsToleratedBy (machine_of counter) faulty) (count : ℕ)
    (bytes packets : ℕ → ℕ → List ℕ)
    (rounds : InRounds text (machine_of counter) faulty count bytes packets) where
  stepping : Stepping text (machine_of counter) faulty count bytes packets
  stepping = record { long = rounds.long; steps = rounds.steps }

  said : SayRun (machine_of counter) faulty count bytes
  said =
      nodes_in_rounds_run (machine_of counter) (sound_of text counter is) faulty borne count bytes
      (told_in (machine_of counter) packets)
      (record {
        steps = in_rounds text counter is faulty count bytes packets stepping;
        told = rounds.told;
      })

  count_by_bytes : CountByBytes text (machine_of counter) faulty count bytes
  count_by_bytes = record {
    settles =
        counted text counter is faulty count bytes packets stepping (machine_of counter).bound
        said.settles;
    locks = said.locks;
    stays = λ from le locked.
        stay_locked text counter is faulty count bytes packets stepping from
        (said.stays from le locked);
  }

pub nodes_count : NodesCount
nodes_count text counter is faulty borne count bytes packets rounds =
    count_by_bytes text counter is faulty borne count bytes packets rounds

pub lossy_nodes_count : LossyNodesCount
lossy_nodes_count text counter is faulty borne count bytes packets rounds from le locked =
    let k = machine_of counter in
    let stepping : Stepping text k faulty count bytes packets =
    record { long = rounds.long; steps = rounds.steps } in
    stay_locked text counter is faulty count bytes packets stepping from
    (nodes_in_rounds_stay_locked k (sound_of text counter is) faulty borne count bytes
    (told_in k packets)
    (record {
      steps = in_rounds text counter is faulty count bytes packets stepping;
      missed = rounds.missed;
      are = rounds.are;
      told = rounds.told;
    }) from le locked)
