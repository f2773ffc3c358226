-- A process of `node` that is started anew while others go on.
use Rattle.std.specs.Prelude.{◌≡◌, ℕ, ◌+◌, ◌≤◌, List}
use Rattle.construction.specs.Plans.{Plan}
use Rattle.construction.specs.Steps.{state_of}
use Rattle.construction.specs.Runs.{IsToleratedBy, IsLocked}
use Rattle.plan_machine.specs.NodeRuns.{IsCorrect, SomeIsCorrect}
use Rattle.plan_machine.specs.Laws.{StayLockedThrough}
pub use Rattle.node_words.specs.Restarts.{Restart, calls_after, begins_after}
pub use Rattle.node_words.specs.Restarts.{AreFaultyMeanwhile}
use Rattle.promises.specs.NodeCalls.{Call}
use Rattle.promises.specs.CallWindows.{cell_written, states_written, CallsConnect}
use Rattle.promises.specs.CallWindows.{NodesKeepPromise}

-- The other correct nodes keep their promise all the time; with the one that is started anew all
-- keep it in the rest; the others are in the same states in both; and if it goes on from the cell
-- that was written in its place, all stay locked.
pub record RestartIsKept (plan : Plan) (faulty meanwhile : List ℕ) (calls : ℕ → Call)
    (begins : ℕ → ℕ) (restart : Restart) (rounds : ℕ) : Type 0 where
  pub others : NodesKeepPromise plan meanwhile calls begins (restart.after + rounds)
  pub rest : NodesKeepPromise plan faulty (calls_after restart calls)
      (begins_after restart begins) rounds
  pub same : (i v : ℕ) → i ≤ rounds → IsCorrect plan meanwhile v
      → state_of (states_written plan calls begins (restart.after + i)) v
      ≡ state_of (states_written plan (calls_after restart calls) (begins_after restart begins) i) v
  pub handed : cell_written plan (calls_after restart calls) 0 restart.node
      ≡ cell_written plan calls (begins restart.node + restart.after) restart.node
      → IsLocked plan faulty (states_written plan calls begins restart.after)
      → StayLockedThrough plan faulty
      (states_written plan (calls_after restart calls) (begins_after restart begins)) 0 rounds

-- If the plan tolerates it as a faulty node too, the others are undisturbed while it is away. It
-- counts with them T rounds after its start; and at once if it was handed the last cell that was
-- written in its place, so that this is its first one, and the configuration then was locked.
abbrev pub RestartedNodesCount : Type 0
RestartedNodesCount = (plan : Plan) (faulty meanwhile : List ℕ)
    → IsToleratedBy plan faulty → IsToleratedBy plan meanwhile → (restart : Restart)
    → AreFaultyMeanwhile restart.node faulty meanwhile → SomeIsCorrect plan meanwhile
    → (calls : ℕ → Call) (begins : ℕ → ℕ) (rounds : ℕ)
    → CallsConnect plan meanwhile calls begins (restart.after + rounds)
    → CallsConnect plan faulty (calls_after restart calls) (begins_after restart begins) rounds
    → RestartIsKept plan faulty meanwhile calls begins restart rounds
