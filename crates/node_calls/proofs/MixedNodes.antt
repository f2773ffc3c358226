-- Processes and callers step in rounds, and count as one network.
use Rattle.std.proofs.Common.{◌≡◌, ℕ, ◌+◌, ◌<◌, ◌≤◌, List, length, Ok, sym, ap, subst, ◌∙◌, arith}
use Rattle.state_codec.specs.Shapes.{bytes_in}
use Rattle.state_codec.specs.Reading.{read}
use Rattle.machines.specs.Machines.{Machine}
use Rattle.machines.specs.Laws.{IsSound}
use Rattle.node_calls.specs.declared.any_machines.AnyMachine.{AnyMachine}
use Rattle.node_calls.specs.Machines.{machine_of}
use Rattle.node_stepper.specs.Nodes.{state_after}
use Rattle.node_stepper.specs.NodeRuns.{IsCorrect}
use Rattle.node_stepper.specs.Rounds.{packet_given, StepInRounds}
use Rattle.node_stepper.proofs.Rounds.{process_steps, nodes_in_rounds_run}
use Rattle.node_stepper.proofs.Rounds.{nodes_in_rounds_stay_locked}
use Rattle.node_calls.specs.Counters.{counter_answer}
use Rattle.node_calls.specs.Answers.{output_answer, step_answer}
use Rattle.node_calls.specs.Counting.{cell_in}
use Rattle.node_calls.specs.MixedNodes.{Member, process, caller, CallsInRounds, says, hears}
use Rattle.node_calls.specs.MixedNodes.{IsMember, IsAnswered, all_say, MixedNodesCount}
use Rattle.node_calls.specs.MixedNodes.{MixedNodesStayLocked}
use Rattle.node_calls.proofs.Counting.{caller_steps, caller_shows}

-- ---- a caller, by the machine of its counter

-- its bytes step in rounds, and its calls answer what it shows
record AreCalled (m : Machine) (rounds v : ℕ) (text : List ℕ) (bytes packets : ℕ → List ℕ)
    : Type 0 where
  steps : (i : ℕ) → i < rounds → read (m.fields v) (bytes (i + 1))
      ≡ state_after m v (read (m.fields v) (bytes i)) (packet_given m (cell_in m (packets i)))
  shows : (i : ℕ) → i ≤ rounds
      → output_answer text v (bytes i) ≡ Ok (m.shows v (read (m.fields v) (bytes i)))

called_by : (counter : AnyMachine) (rounds v : ℕ) (text : List ℕ) (bytes packets : ℕ → List ℕ)
    → counter_answer text ≡ Ok counter → v < (machine_of counter).nodes
    → length (bytes 0) ≡ bytes_in ((machine_of counter).fields v)
    → ((i : ℕ) → i < rounds → step_answer text v (bytes i) (packets i) ≡ Ok (1, bytes (i + 1)))
    → AreCalled (machine_of counter) rounds v text bytes packets
called_by counter rounds v text bytes packets is node long steps = record {
  steps = caller_steps text counter is v node rounds bytes packets long steps;
  shows = caller_shows text counter is v node rounds bytes packets long steps;
}

are_called : (m : Machine) (rounds v : ℕ) → v < m.nodes → (text : List ℕ)
    (bytes packets : ℕ → List ℕ) → CallsInRounds m rounds v text bytes packets
    → AreCalled m rounds v text bytes packets
are_called m rounds v node text bytes packets calls =
    subst (λ (k : Machine). AreCalled k rounds v text bytes packets) calls.of
    (called_by calls.counter rounds v text bytes packets calls.is
    (subst (λ (k : Machine). v < k.nodes) (sym calls.of) node)
    (calls.long ∙ ap (λ (k : Machine). bytes_in (k.fields v)) (sym calls.of)) calls.steps)

-- ---- a member

module _ (m : Machine) (sound : IsSound m) (rounds v : ℕ) (node : v < m.nodes) where
  member_steps : (member : Member) → IsMember m rounds v member → (i : ℕ) → i < rounds
      → read (m.fields v) (says m v member (i + 1))
      ≡ state_after m v (read (m.fields v) (says m v member i)) (packet_given m (hears m member i))
  member_steps (process start packets begins) is i lt =
      let enough = is.1 in
      process_steps m sound v node start is.0 packets begins i (omega (arith, enough))
  member_steps (caller text bytes packets) is i lt =
      (are_called m rounds v node text bytes packets is).steps i lt

  member_answered : (member : Member) → IsMember m rounds v member → (i : ℕ) → i ≤ rounds
      → IsAnswered m v member i
  member_answered (process start packets begins) is i le = tt
  member_answered (caller text bytes packets) is i le =
      (are_called m rounds v node text bytes packets is).shows i le

module _ (m : Machine) (sound : IsSound m) (faulty : List ℕ) (members : ℕ → Member) (rounds : ℕ)
    (are : (v : ℕ) → IsCorrect m faulty v → IsMember m rounds v (members v)) where
  all_step : StepInRounds m faulty rounds (all_say m members) (λ i v u. hears m (members v) i u)
  all_step i v lt correct =
      member_steps m sound rounds v correct.0 (members v) (are v correct) i lt

pub mixed_nodes_count : MixedNodesCount
mixed_nodes_count m sound faulty borne members rounds connect = record {
  run =
      nodes_in_rounds_run m sound faulty borne rounds (all_say m members)
      (λ i v u. hears m (members v) i u)
      (record {
        steps = all_step m sound faulty members rounds connect.are;
        told = connect.told;
      });
  answered = λ i v le correct.
      member_answered m sound rounds v correct.0 (members v) (connect.are v correct) i le;
}

pub mixed_nodes_stay_locked : MixedNodesStayLocked
mixed_nodes_stay_locked m sound faulty borne members rounds heard from le locked =
    nodes_in_rounds_stay_locked m sound faulty borne rounds (all_say m members)
    (λ i v u. hears m (members v) i u)
    (record {
      steps = all_step m sound faulty members rounds heard.are;
      missed = heard.missed;
      are = heard.few;
      told = heard.told;
    }) from le locked
