-- A call of a node is a process over packets.
use Rattle.std.proofs.Common.{◌∙◌, ap, subst}
use Rattle.sync_types.specs.States.{State}
use Rattle.machines.specs.Machines.{IsState}
use Rattle.node_stepper.specs.Nodes.{node_text}
use Rattle.node_words.specs.Constructions.{Words}
use Rattle.node_words.specs.Calls.{packets_in}
use Rattle.node_words.specs.HeaderPromises.{HeadersAreOfMachines}
use Rattle.node_words.specs.Processes.{CallsAreProcesses}
use Rattle.node_words.proofs.CallStates.{start_is, node_text_is, start_is_state}

pub are_processes : {Reader Plan Premise : Type 0} (words : Words Reader Plan Premise)
    {Accepted : Plan → Type 0} → HeadersAreOfMachines words Accepted → CallsAreProcesses words
are_processes words law m v call is =
    let start = start_is words call is.header is.is in
    record {
      is = subst (IsState m v) start (start_is_state words law m v call is);
      text =
          node_text_is words law m v call is
          ∙ ap (λ (s : State). node_text m v s (packets_in words call)) start;
    }
