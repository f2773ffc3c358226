-- A call of `node` is a process over packets.
use Rattle.std.specs.Prelude.{◌≡◌, ℕ}
use Rattle.sync_types.specs.States.{State}
use Rattle.construction.specs.Plans.{Plan}
use Rattle.construction.specs.Runs.{IsState}
use Rattle.plan_laws.specs.VersionLaws.{in_version}
use Rattle.plan_machine.specs.PlanMachines.{machine_of_plan}
use Rattle.plan_machine.specs.PlanNodes.{node_text}
use Rattle.node_words.specs.Processes as any
use Rattle.outcomes.specs.PlanWords.{plan_words}
use Rattle.promises.specs.NodeCalls.{Call, packets_in, text_of, IsOfNode}

-- it begins in a state of node v, and writes what that node writes over the call's packets
pub record IsProcess (plan : Plan) (v : ℕ) (call : Call) : Type 0 where
  pub start : State
  pub is : IsState plan v start
  pub text : text_of call ≡ node_text plan v start (packets_in call)

-- Each call of a node of a plan is one, whichever version its header is in.
abbrev pub CallsAreProcesses : Type 0
CallsAreProcesses = (plan : Plan) (v : ℕ) (call : Call) → IsOfNode plan v call
    → IsProcess (in_version 2 plan) v call

-- It is one of the plan's machine, from the state on that its header states.
abbrev pub CallsAreProcessesFrom : Type 0
CallsAreProcessesFrom = (plan : Plan) (v : ℕ) (call : Call) → (is : IsOfNode plan v call)
    → any.IsProcess plan_words (machine_of_plan plan) v is.header.node.state call
