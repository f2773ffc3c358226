-- Calls of `node` are calls of nodes of sound machines.
use Rattle.std.proofs.Common.{◌<◌, ℕ, Result, Ok, Err, None, ap, subst, arith}
use Rattle.std.specs.Prelude.{IfOk, Option}
use Rattle.texts.specs.Lines.{lines_of, whole_lines}
use Rattle.construction.specs.Plans.{Plan}
use Rattle.machines.specs.Machines.{Machine}
use Rattle.plan_numbers.specs.Premises.{IsAccepted}
use Rattle.plan_laws.specs.VersionLaws.{in_version}
use Rattle.plan_machine.specs.PlanMachines.{machine_of_plan}
use Rattle.plan_machine.proofs.PlanMachines.{are_alike}
use Rattle.plan_machine.proofs.Sound.{accepted_are_sound}
use Rattle.node_words.specs.Headers.{Header, HeaderRefusal, header_in}
use Rattle.node_words.specs.HeaderLaws.{IsOfPlan}
use Rattle.node_words.proofs.AcceptedHeaders.{are_of_plans}
use Rattle.node_words.specs.Calls as any
use Rattle.node_words.specs.HeaderPromises.{IsOfMachine, HeadersAreOfMachines}
use Rattle.node_words.proofs.Processes.{are_processes}
use Rattle.node_words.proofs.CallStates.{start_by, header_is, node_text_is, start_is_state}
use Rattle.outcomes.specs.PlanWords.{plan_words}
use Rattle.promises.specs.NodeCalls.{Call, header_of, IsOfNode}
use Rattle.promises.specs.Processes.{IsProcess, CallsAreProcesses, CallsAreProcessesFrom}

-- ---- headers

of_machine : (r : Result Header (Option HeaderRefusal)) → IfOk r IsOfPlan
    → IfOk r (IsOfMachine plan_words IsAccepted)
of_machine (Err refused) is = tt
of_machine (Ok h) is = record {
  accepted = is.accepted;
  sound = accepted_are_sound h.plan is.accepted;
  node = is.node;
  state =
      ((are_alike h.plan is.accepted).states h.node.id h.node.state is.node).0 is.state;
}

pub headers_of_machines : HeadersAreOfMachines plan_words IsAccepted
headers_of_machines = record {
  all = λ room text. of_machine (header_in room (lines_of text)) (are_of_plans.all room text);
  whole = λ text. of_machine (header_in None (whole_lines text)) (are_of_plans.whole text);
}

accepted_newer : (plan : Plan) → IsAccepted plan → IsAccepted (in_version 2 plan)
accepted_newer plan accepted = record {
  oldest = omega arith;
  newest = omega arith;
  fits = λ k d lt same. absurd cc;
  levels = accepted.levels;
}

-- ---- one call

module _ (plan : Plan) (v : ℕ) (call : Call) (is : IsOfNode plan v call) where
  abbrev m : Machine
  m = machine_of_plan plan

  -- a plan is one machine in both versions
  abbrev is_of_machine : any.IsOfNode plan_words m v call
  is_of_machine = record {
    header = is.header;
    is = is.is;
    names = ap machine_of_plan is.names;
    id = is.id;
  }

  header : IsOfMachine plan_words IsAccepted is.header
  header = header_is plan_words headers_of_machines m v call is_of_machine

  pub are_accepted : IsAccepted is.header.plan × IsAccepted (in_version 2 plan)
  are_accepted = (
    header.accepted,
    subst IsAccepted is.names (accepted_newer is.header.plan header.accepted),
  )

  below : v < m.nodes
  below =
      subst (λ (i : ℕ). i < m.nodes) is.id
      (subst (λ (k : Machine). is.header.node.id < k.nodes) is_of_machine.names header.node)

  is_process : IsProcess (in_version 2 plan) v call
  is_process =
      let start = start_by (header_of call) in
      record {
        start = start;
        is = ((are_alike (in_version 2 plan) are_accepted.1).states v start below).1
            (start_is_state plan_words headers_of_machines m v call is_of_machine);
        text = node_text_is plan_words headers_of_machines m v call is_of_machine;
      }

pub calls_are_processes : CallsAreProcesses
calls_are_processes plan v call is = is_process plan v call is

pub calls_are_processes_from : CallsAreProcessesFrom
calls_are_processes_from plan v call is =
    are_processes plan_words headers_of_machines (machine_of_plan plan) v call
    (is_of_machine plan v call is)
