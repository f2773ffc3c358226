-- Calls of a node that are given most of one another's cells stay locked.
use Rattle.std.proofs.Common.{◌≡◌, ℕ, ◌<◌, false, List, sym}
use Rattle.construction.specs.Runs.{is_in}
use Rattle.machines.specs.Machines.{Machine}
use Rattle.node_stepper.specs.NodeRuns.{Nodes, IsCorrect, SomeIsCorrect, states_in}
use Rattle.node_stepper.specs.Losses.{AreHeard}
use Rattle.node_stepper.proofs.Losses.{not_so}
use Rattle.node_stepper.proofs.Heard.{heard_nodes_stay_locked}
use Rattle.node_stepper.proofs.Follows.{locked_elsewhere, stay_elsewhere}
use Rattle.node_words.specs.Constructions.{Words}
use Rattle.node_words.specs.Calls.{Call}
use Rattle.node_words.specs.HeaderPromises.{HeadersAreOfMachines}
use Rattle.node_words.specs.CallWindows.{states_written, CallsAreHeard, HeardCallsStayLocked}
use Rattle.node_words.proofs.CallStates.{nodes, sound, start_is_one, given_is, same_states}

module _ {Reader Plan Premise : Type 0} (words : Words Reader Plan Premise)
    {Accepted : Plan → Type 0} (law : HeadersAreOfMachines words Accepted) (m : Machine)
    (faulty : List ℕ)
    (some : SomeIsCorrect m faulty) (calls : ℕ → Call) (begins : ℕ → ℕ) (rounds : ℕ)
    (is : CallsAreHeard words m faulty calls begins rounds) where
  abbrev own : Nodes
  own = nodes words law m faulty some calls begins rounds is.are_calls

  -- a node that is not missed is correct
  not_missed : (i v u : ℕ) → i < rounds → IsCorrect m faulty v → is_in (is.missed i v) u ≡ false
      → is_in faulty u ≡ false
  not_missed i v u lt correct =
      not_so (is_in faulty u) (is_in (is.missed i v) u) ((is.are i v lt correct).faulty_too u)

  are_heard : AreHeard m faulty own begins rounds
  are_heard = record {
    starts = start_is_one words law m faulty some calls begins rounds is.are_calls;
    enough = is.are_calls.enough;
    missed = is.missed;
    are = is.are;
    cells = λ i v u lt correct ult not_missed_u other.
        given_is words law m faulty some calls begins rounds is.are_calls i v u lt
        (ult, not_missed i v u lt correct not_missed_u)
        (is.cells i v u lt correct ult not_missed_u other);
  }

pub heard_stay_locked : {Reader Plan Premise : Type 0} (words : Words Reader Plan Premise)
    {Accepted : Plan → Type 0} → HeadersAreOfMachines words Accepted → (m : Machine)
    → HeardCallsStayLocked words m
heard_stay_locked words law m faulty borne some calls begins rounds is from le locked =
    let heard = own words law m faulty some calls begins rounds is in
    let is_sound = sound words law m faulty some calls begins rounds is.are_calls in
    let same = same_states words law m faulty some calls begins rounds is.are_calls in
    let at = states_in m heard begins in
    let written = states_written words m calls begins in
    stay_elsewhere m faulty at written rounds same from
    (heard_nodes_stay_locked m is_sound faulty borne heard begins rounds
    (are_heard words law m faulty some calls begins rounds is) from le
    (locked_elsewhere m faulty written at rounds
    (λ i v low correct. sym (same i v low correct)) from le locked))
