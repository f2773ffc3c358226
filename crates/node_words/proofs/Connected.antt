-- Calls of a node that are given one another's cells are connected nodes.
use Rattle.std.proofs.Common.{ℕ, List, ◌∙◌}
use Rattle.sync_types.specs.States.{State}
use Rattle.machines.specs.Machines.{Machine, IsToleratedBy}
use Rattle.machines.specs.Laws.{IsSound}
use Rattle.node_stepper.specs.NodeRuns.{Nodes, SomeIsCorrect, AreConnected}
use Rattle.node_stepper.specs.RunLaws.{RunThrough}
use Rattle.node_stepper.proofs.Runs.{nodes_run}
use Rattle.node_stepper.proofs.Settled.{settle_through, lock_through, stay_through}
use Rattle.node_words.specs.Constructions.{Words}
use Rattle.node_words.specs.Calls.{Call}
use Rattle.node_words.specs.HeaderPromises.{HeadersAreOfMachines}
use Rattle.node_words.specs.CallWindows.{states_written, CallsConnect, NodesKeepPromise}
use Rattle.node_words.specs.CallWindows.{ConnectedCallsCount}
use Rattle.node_words.proofs.CallStates.{nodes, sound, start_is_one, given_is, same_states}
use Rattle.node_words.proofs.CallStates.{some_written}

module _ {Reader Plan Premise : Type 0} (words : Words Reader Plan Premise)
    {Accepted : Plan → Type 0} (law : HeadersAreOfMachines words Accepted) (m : Machine)
    (faulty : List ℕ) (borne : IsToleratedBy m faulty)
    (some : SomeIsCorrect m faulty) (calls : ℕ → Call) (begins : ℕ → ℕ) (rounds : ℕ)
    (is : CallsConnect words m faulty calls begins rounds) where
  abbrev own : Nodes
  own = nodes words law m faulty some calls begins rounds is.are

  is_sound : IsSound m
  is_sound = sound words law m faulty some calls begins rounds is.are

  connected : AreConnected m faulty own begins rounds
  connected = record {
    starts = start_is_one words law m faulty some calls begins rounds is.are;
    enough = is.are.enough;
    cells = λ i v u lt v_correct u_correct other.
        given_is words law m faulty some calls begins rounds is.are i v u lt u_correct
        (is.cells i v u lt v_correct u_correct other);
  }

  abbrev at : (i : ℕ) → List State
  at i = states_written words m calls begins i

  run : RunThrough m faulty at rounds
  run =
      let r = nodes_run m is_sound faulty own begins rounds connected in
      record {
        run = r.run;
        is = r.is;
        long = r.long;
        states = λ i v le correct.
            r.states i v le correct
            ∙ same_states words law m faulty some calls begins rounds is.are i v le correct;
      }

  keep : NodesKeepPromise words m faulty calls begins rounds
  keep = record {
    written = some_written words law m faulty some calls begins rounds is.are;
    run = run;
    settles = settle_through m is_sound faulty at rounds run borne;
    locks = lock_through m is_sound faulty at rounds run borne;
    stays = stay_through m is_sound faulty at rounds run borne;
  }

pub connected_count : {Reader Plan Premise : Type 0} (words : Words Reader Plan Premise)
    {Accepted : Plan → Type 0} → HeadersAreOfMachines words Accepted → (m : Machine)
    → ConnectedCallsCount words m
connected_count words law m faulty borne some calls begins rounds is =
    keep words law m faulty borne some calls begins rounds is
