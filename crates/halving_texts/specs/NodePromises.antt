-- What calls of nodes of a halving plan promise if they are given one another's cells.
use Rattle.std.specs.Prelude.{ℕ, List}
use Rattle.machines.specs.Machines.{IsToleratedBy}
use Rattle.machines.specs.Laws.{IsSound}
use Rattle.node_stepper.specs.NodeRuns.{SomeIsCorrect}
use Rattle.node_stepper.specs.Missed.{OthersAreMissed}
use Rattle.node_words.specs.Calls.{Call, IsOfNode, CallsWriteTexts}
use Rattle.node_words.specs.CallWindows.{ConnectedCallsCount, HeardCallsStayLocked}
use Rattle.node_words.specs.Restarts.{RestartedNodesCount}
use Rattle.node_words.specs.Processes.{CallsAreProcesses}
use Rattle.node_words.specs.Inputs.{AnyInputsConnect}
use Rattle.node_words.specs.RestartInputs.{AnyInputsRestart}
use Rattle.node_words.specs.ResumedInputs.{AnyInputsResume}
use Rattle.node_words.specs.LossyInputs.{AnyInputsLose}
use Rattle.node_words.specs.Skips.{HeaderSkipsAreUnseen}
use Rattle.halving_plan.specs.Plans.{HalvingNumbers, IsAccepted}
use Rattle.halving_plan.specs.Laws.{machine_in}
use Rattle.halving_texts.specs.HalvingWords.{halving_words}

-- What a node does is a call, whose text was written; connected calls count, and stay locked when
-- cells are lost, whichever N - F correct ones are heard; a process that is started anew comes to
-- count with the others; the plan that a call's header names is accepted, and of an accepted plan
-- some node is correct; skipped lines of a header change nothing.
pub record HalvingNodesKeepPromise : Type 0 where
  pub texts : CallsWriteTexts halving_words
  pub kept : (plan : HalvingNumbers) → ConnectedCallsCount halving_words (machine_in plan)
  pub heard : (plan : HalvingNumbers) → HeardCallsStayLocked halving_words (machine_in plan)
  pub missed : OthersAreMissed
  pub restarts : (plan : HalvingNumbers) → RestartedNodesCount halving_words (machine_in plan)
  pub accepted : (plan : HalvingNumbers) (v : ℕ) (call : Call)
      → (is : IsOfNode halving_words (machine_in plan) v call)
      → IsAccepted is.header.plan × IsSound (machine_in plan)
  pub some : (plan : HalvingNumbers) → IsAccepted plan → (faulty : List ℕ)
      → IsToleratedBy (machine_in plan) faulty → SomeIsCorrect (machine_in plan) faulty
  pub skips : HeaderSkipsAreUnseen halving_words

-- Each call of a node is a process over packets, from the state on that its header states.
abbrev pub HalvingCallsAreProcesses : Type 0
HalvingCallsAreProcesses = CallsAreProcesses halving_words

-- a header has seven lines
abbrev pub header_lines : HalvingNumbers → ℕ
header_lines plan = 7

-- The premises can be met: there are inputs of connected calls, whatever states of theirs the
-- correct nodes begin in, and whatever is sent; they are bytes if this is bytes that fit into
-- cells.
abbrev pub AnyHalvingInputsConnect : Type 0
AnyHalvingInputsConnect = AnyInputsConnect halving_words header_lines IsAccepted

-- There are some to which cells are lost, whichever they are of those that may be missed.
abbrev pub AnyHalvingInputsLose : Type 0
AnyHalvingInputsLose = AnyInputsLose halving_words header_lines IsAccepted

-- There are some of which one is started anew, in whatever state of its node.
abbrev pub AnyHalvingInputsRestart : Type 0
AnyHalvingInputsRestart = AnyInputsRestart halving_words header_lines IsAccepted

-- And some of which one ends, and another input of its node goes on from its last cell.
abbrev pub AnyHalvingInputsResume : Type 0
AnyHalvingInputsResume = AnyInputsResume halving_words header_lines IsAccepted

-- all of these
pub record AnyHalvingInputs : Type 0 where
  pub connect : AnyHalvingInputsConnect
  pub lose : AnyHalvingInputsLose
  pub restart : AnyHalvingInputsRestart
  pub resume : AnyHalvingInputsResume
