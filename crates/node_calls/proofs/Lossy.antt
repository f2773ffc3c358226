-- Nodes over packets of which some are lost make such steps as the calls answer.
use Rattle.std.proofs.Common.{◌≡◌, ℕ, ◌+◌, ◌<◌, Bool, true, false, List, [], length, take, get_or}
use Rattle.std.proofs.Common.{Ok, refl, sym, ap, ◌∙◌, subst, arith}
use Rattle.std.proofs.lemmas.List.Elements.{All-from_get_or}
use Rattle.sync_types.specs.States.{State}
use Rattle.construction.specs.Runs.{is_in}
use Rattle.state_codec.specs.Writing.{written}
use Rattle.node_stepper.specs.Laws.{packet_text}
use Rattle.node_stepper.specs.Nodes.{state_behind}
use Rattle.node_stepper.proofs.CellByCell.{written_size}
use Rattle.machines.specs.Machines.{Machine, IsState}
use Rattle.node_calls.specs.declared.any_machines.AnyMachine.{AnyMachine}
use Rattle.node_calls.specs.Machines.{machine_of}
use Rattle.node_stepper.specs.Bytes.{AreBytes, FitsCell}
use Rattle.node_stepper.specs.NodeRuns.{cell_given, IsCorrect, state_at, state_in}
use Rattle.node_stepper.specs.Losses.{AreMissed}
use Rattle.node_stepper.specs.Lossy.{ConnectsMost}
use Rattle.node_stepper.proofs.Bytes.{packet_bytes, written_fits}
use Rattle.node_stepper.proofs.Connected.{any_losses_connect}
use Rattle.node_calls.specs.Counters.{counter_answer}
use Rattle.node_calls.specs.Answers.{step_answer}
use Rattle.node_calls.specs.Counting.{cell_in}
use Rattle.node_calls.specs.Lossy.{MissIn, AnyLossesAreTold}
use Rattle.node_calls.proofs.Callers.{packet_full, cell_is, caller_steps_on}
use Rattle.node_calls.proofs.Counters.{sound_of, states_fit}

module _ (text : List ℕ) (counter : AnyMachine) (is : counter_answer text ≡ Ok counter)
    (faulty : List ℕ) (starts : ℕ → State) (sent : ℕ → ℕ → ℕ → List ℕ)
    (missed : (t v : ℕ) → List ℕ) (count : ℕ)
    (begun : (v : ℕ) → IsCorrect (machine_of counter) faulty v
    → IsState (machine_of counter) v (starts v))
    (c : ConnectsMost (machine_of counter) faulty starts sent missed (λ v. 0) count) where
  abbrev m : Machine
  m = machine_of counter

  abbrev state : (t v : ℕ) → State
  state t v = state_behind m v (starts v) (take t (c.nodes.packets v))

  abbrev bytes : ℕ → ℕ → List ℕ
  bytes t v = written (m.fields v) (state t v)

  abbrev packet : ℕ → ℕ → List (List ℕ)
  packet t v = get_or (c.nodes.packets v) t []

  abbrev packets : ℕ → ℕ → List ℕ
  packets t v = packet_text (packet t v)

  in_time : (t v : ℕ) → t < count → t < length (c.nodes.packets v)
  in_time t v early = let long = c.long v in omega (arith, long)

  heard_is : (t v u : ℕ) → t < count → v < m.nodes
      → cell_in m (packets t v) u ≡ cell_given c.nodes t v u
  heard_is t v u early node =
      cell_is text counter is v node (c.nodes.packets v) (c.full v) t (in_time t v early) u

  -- the state that the nodes have
  same_state : (t u : ℕ) → state_in m c.nodes (λ v. 0) t u ≡ state t u
  same_state t u =
      let e : 0 + t ≡ t = omega arith in
      ap (λ i. state_at m c.nodes i u) e
      ∙ ap (λ (s : ℕ → State). state_behind m u (s u) (take t (c.nodes.packets u))) c.begin

  steps : (t v : ℕ) → t < count → IsCorrect m faulty v
      → step_answer text v (bytes t v) (packets t v) ≡ Ok (1, bytes (t + 1) v)
  steps t v early correct =
      caller_steps_on text counter is v correct.0 (c.nodes.packets v) (c.full v) t
      (in_time t v early) (starts v) (begun v correct)

  -- ---- what is given

  wrote : (t v u : ℕ) → t < count → u < m.nodes → is_in (missed t v) u ≡ false
      → cell_given c.nodes t v u ≡ bytes t u
  wrote t v u early ult not_missed =
      let e : t ≡ 0 + t = omega arith in
      ap (λ i. cell_given c.nodes i v u) e
      ∙ c.wrote t v u early ult not_missed
      ∙ ap (written (m.fields u)) (same_state t u)

  lost : (t v u : ℕ) → t < count → u < m.nodes → is_in (missed t v) u ≡ true
      → cell_given c.nodes t v u ≡ sent t v u
  lost t v u early ult is_missed =
      let e : t ≡ 0 + t = omega arith in
      ap (λ i. cell_given c.nodes i v u) e
      ∙ c.lost t v u early ult is_missed
      ∙ ap (λ i. sent i v u) (sym e)

  module _ (fits : (t v u : ℕ) → t < count → IsCorrect m faulty v → u < m.nodes
      → is_in (missed t v) u ≡ true → FitsCell (sent t v u))
      (t v : ℕ) (early : t < count) (correct : IsCorrect m faulty v) where
    cell_by : (u : ℕ) → u < m.nodes → (b : Bool) → is_in (missed t v) u ≡ b
        → FitsCell (cell_given c.nodes t v u)
    cell_by u ult true is_missed =
        subst FitsCell (sym (lost t v u early ult is_missed))
        (fits t v u early correct ult is_missed)
    cell_by u ult false not_missed =
        subst FitsCell (sym (wrote t v u early ult not_missed))
        (written_fits (m.fields u) (state t u) (states_fit text counter is u ult))

    given_bytes : AreBytes (packets t v)
    given_bytes =
        let full = packet_full text counter is v correct.0 (c.nodes.packets v) (c.full v) t
        (in_time t v early) in
        packet_bytes (packet t v)
        (All-from_get_or FitsCell (packet t v) []
        (λ u lt. cell_by u (omega (arith, lt, full)) (is_in (missed t v) u) refl))

  pub miss_in : ((t v : ℕ) → t < count → IsCorrect m faulty v
      → AreMissed m faulty v (missed t v))
      → MissIn text m faulty starts sent missed count
  miss_in are = record {
    bytes = bytes;
    packets = packets;
    begin = λ v correct. refl;
    rounds = record {
      long = λ v correct. written_size (m.fields v) (state 0 v);
      missed = missed;
      are = are;
      told = λ t v u early correct ult not_missed apart.
          heard_is t v u early correct.0 ∙ wrote t v u early ult not_missed;
      steps = steps;
    };
    miss = refl;
    lost = λ t v u early correct ult is_missed.
        heard_is t v u early correct.0 ∙ lost t v u early ult is_missed;
    in_bytes = given_bytes;
  }

pub losses_are_told : AnyLossesAreTold
losses_are_told text counter is faulty starts sent missed count begun are =
    miss_in text counter is faulty starts sent missed count begun
    (any_losses_connect (machine_of counter) (sound_of text counter is) faulty starts sent missed
    (λ v. 0) count begun are) are
