-- A process of a node that is started anew while others go on.
use Rattle.std.specs.Prelude.{◌≡◌, ℕ, ◌+◌, ◌≤◌, ◌==◌, List, if◌then◌else◌}
use Rattle.construction.specs.Steps.{state_of}
use Rattle.machines.specs.Machines.{Machine, IsToleratedBy, IsLocked}
use Rattle.node_stepper.specs.NodeRuns.{IsCorrect, SomeIsCorrect}
use Rattle.node_stepper.specs.RunLaws.{StayLockedThrough}
pub use Rattle.node_stepper.specs.Restarts.{AreFaultyMeanwhile}
use Rattle.node_stepper.specs.Restarts.{begins_later}
use Rattle.node_words.specs.Constructions.{Words}
use Rattle.node_words.specs.Calls.{Call}
use Rattle.node_words.specs.CallWindows.{cell_written, states_written, CallsConnect}
use Rattle.node_words.specs.CallWindows.{NodesKeepPromise}

-- A node is started anew: after so many rounds of a window it is another call, and the rest of the
-- window begins with the first packet of that call. What it was before, and whether it was there,
-- does not matter.
pub record Restart : Type 0 where
  pub node : ℕ
  pub after : ℕ
  pub call : Call

abbrev pub calls_after : Restart → (calls : ℕ → Call) → ℕ → Call
calls_after restart calls v = if v == restart.node then restart.call else calls v

abbrev pub begins_after : Restart → (begins : ℕ → ℕ) → ℕ → ℕ
begins_after restart begins v = begins_later restart.node restart.after begins v

module _ {Reader Plan Premise : Type 0} (words : Words Reader Plan Premise) (m : Machine) where
  -- The other correct nodes keep their promise all the time; with the one that is started anew all
  -- keep it in the rest; the others are in the same states in both; and if it goes on from the cell
  -- that was written in its place, all stay locked.
  pub record RestartIsKept (faulty meanwhile : List ℕ) (calls : ℕ → Call) (begins : ℕ → ℕ)
      (restart : Restart) (rounds : ℕ) : Type 0 where
    pub others : NodesKeepPromise words m meanwhile calls begins (restart.after + rounds)
    pub rest : NodesKeepPromise words m faulty (calls_after restart calls)
        (begins_after restart begins) rounds
    pub same : (i v : ℕ) → i ≤ rounds → IsCorrect m meanwhile v
        → state_of (states_written words m calls begins (restart.after + i)) v
        ≡ state_of (states_written words m (calls_after restart calls)
        (begins_after restart begins) i) v
    pub handed : cell_written words m (calls_after restart calls) 0 restart.node
        ≡ cell_written words m calls (begins restart.node + restart.after) restart.node
        → IsLocked m faulty (states_written words m calls begins restart.after)
        → StayLockedThrough m faulty
        (states_written words m (calls_after restart calls) (begins_after restart begins)) 0 rounds

  -- If the machine tolerates it as a faulty node too, the others are undisturbed while it is away.
  -- It counts with them T rounds after its start; and at once if it was handed the last cell that
  -- was written in its place, so that this is its first one, and the configuration then was locked.
  abbrev pub RestartedNodesCount : Type 0
  RestartedNodesCount = (faulty meanwhile : List ℕ) → IsToleratedBy m faulty
      → IsToleratedBy m meanwhile
      → (restart : Restart) → AreFaultyMeanwhile restart.node faulty meanwhile
      → SomeIsCorrect m meanwhile → (calls : ℕ → Call) (begins : ℕ → ℕ) (rounds : ℕ)
      → CallsConnect words m meanwhile calls begins (restart.after + rounds)
      → CallsConnect words m faulty (calls_after restart calls) (begins_after restart begins) rounds
      → RestartIsKept faulty meanwhile calls begins restart rounds
