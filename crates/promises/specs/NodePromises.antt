-- What calls of `node` promise that are given one another's cells.
use Rattle.std.specs.Prelude.{ℕ}
use Rattle.construction.specs.Plans.{Plan}
use Rattle.plan_numbers.specs.Premises.{IsAccepted}
use Rattle.plan_laws.specs.VersionLaws.{in_version}
use Rattle.plan_machine.specs.Laws.{BorneLeavesSome}
use Rattle.plan_machine.specs.Missed.{OthersAreMissed}
use Rattle.promises.specs.NodeCalls.{Call, IsOfNode, CallsWriteTexts}
use Rattle.promises.specs.CallWindows.{ConnectedCallsCount, HeardCallsStayLocked}
use Rattle.promises.specs.Restarts.{RestartedNodesCount}
use Rattle.promises.specs.CallInputs.{AnyCallInputs}
use Rattle.promises.specs.NodeStatuses.{StatusesAreMeant}
use Rattle.promises.specs.Processes.{CallsAreProcessesFrom}

-- What `node` does is a call, whose text was written, and it ends with the status that is meant;
-- connected calls count, and stay locked even if cells are lost, whichever N - F correct ones each
-- hears; a process that is started anew comes to count with the others; a call is a process from
-- the state on that its header states; the plan that its header names is accepted, of an accepted
-- plan some node is correct, and there are inputs that meet each premise but that of locks.
pub record NodePromiseIsKept : Type 0 where
  pub texts : CallsWriteTexts
  pub statuses : StatusesAreMeant
  pub kept : ConnectedCallsCount
  pub heard : HeardCallsStayLocked
  pub missed : OthersAreMissed
  pub restarts : RestartedNodesCount
  pub processes : CallsAreProcessesFrom
  pub accepted : (plan : Plan) (v : ℕ) (call : Call) → (is : IsOfNode plan v call)
      → IsAccepted is.header.plan × IsAccepted (in_version 2 plan)
  pub some : BorneLeavesSome
  pub inputs : AnyCallInputs
