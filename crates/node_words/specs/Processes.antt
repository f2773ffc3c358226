-- A call of a node is a process over packets.
use Rattle.std.specs.Prelude.{◌≡◌, ℕ}
use Rattle.sync_types.specs.States.{State}
use Rattle.machines.specs.Machines.{Machine, IsState}
use Rattle.node_stepper.specs.Nodes.{node_text}
use Rattle.node_words.specs.Constructions.{Words}
use Rattle.node_words.specs.Calls.{Call, packets_in, text_of, IsOfNode}

module _ {Reader Plan Premise : Type 0} (words : Words Reader Plan Premise) where
  -- it begins in this state of node v, and writes what that node writes over the call's packets
  pub record IsProcess (m : Machine) (v : ℕ) (start : State) (call : Call) : Type 0 where
    pub is : IsState m v start
    pub text : text_of words call ≡ node_text m v start (packets_in words call)

  -- Each call of a node is one, from the state on that its header states.
  abbrev pub CallsAreProcesses : Type 0
  CallsAreProcesses = (m : Machine) (v : ℕ) (call : Call) → (is : IsOfNode words m v call)
      → IsProcess m v is.header.node.state call
