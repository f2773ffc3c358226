use Rattle.plan_machine.proofs.Missed.{others_are_missed}
use Rattle.plan_machine.proofs.Plans.{borne_leaves_some}
use Rattle.promises.proofs.NodeCalls.{calls_write}
use Rattle.promises.proofs.PlanCalls.{are_accepted, calls_are_processes_from}
use Rattle.promises.proofs.CallInputs.{any_call_inputs}
use Rattle.promises.proofs.NodeStatuses.{statuses_are_meant}
use Rattle.promises.proofs.NodePromises.{connected_count, heard_stay_locked, restarted_count}
use Rattle.promises.proofs.call_promises.node_promise_is_kept.Goals as goal

pub returns : goal.returns
returns c = record {
  texts = calls_write;
  statuses = statuses_are_meant;
  kept = connected_count;
  heard = heard_stay_locked;
  missed = others_are_missed;
  restarts = restarted_count;
  processes = calls_are_processes_from;
  accepted = are_accepted;
  some = borne_leaves_some;
  inputs = any_call_inputs;
}
