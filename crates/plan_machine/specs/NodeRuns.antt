-- Nodes of a plan over packets, in the words of nodes of any machine.
use Rattle.std.specs.Prelude.{ℕ, List}
use Rattle.sync_types.specs.States.{State}
use Rattle.construction.specs.Plans.{Plan}
use Rattle.plan_machine.specs.PlanMachines.{machine_of_plan}
use Rattle.node_stepper.specs.NodeRuns as any
use Rattle.node_stepper.specs.Losses as losses
pub use Rattle.node_stepper.specs.NodeRuns.{Nodes, cell_given}
pub use Rattle.plan_machine.specs.PlanNodes.{fields_of}

-- a node of the plan that is not faulty
abbrev pub IsCorrect : Plan → (faulty : List ℕ) → (v : ℕ) → Type 0
IsCorrect plan = any.IsCorrect (machine_of_plan plan)

-- there is such a node
abbrev pub SomeIsCorrect : Plan → (faulty : List ℕ) → Type 0
SomeIsCorrect plan = any.SomeIsCorrect (machine_of_plan plan)

-- the state of node v after t packets
abbrev pub state_at : Plan → Nodes → (t v : ℕ) → State
state_at plan = any.state_at (machine_of_plan plan)

-- its state after i rounds of a window, which begins at a packet of its own in each node
abbrev pub state_in : Plan → Nodes → (begins : ℕ → ℕ) → (i v : ℕ) → State
state_in plan = any.state_in (machine_of_plan plan)

-- the states of all nodes then
abbrev pub states_in : Plan → Nodes → (begins : ℕ → ℕ) → (i : ℕ) → List State
states_in plan = any.states_in (machine_of_plan plan)

-- in each round of the window each correct node hears the states of the other correct ones
abbrev pub AreConnected : Plan → (faulty : List ℕ) → Nodes → (begins : ℕ → ℕ) → (rounds : ℕ)
    → Type 0
AreConnected plan = any.AreConnected (machine_of_plan plan)

-- the nodes that one does not hear in a round, at most F, faulty ones among them
abbrev pub AreMissed : Plan → (faulty : List ℕ) → (v : ℕ) → (missed : List ℕ) → Type 0
AreMissed plan = losses.AreMissed (machine_of_plan plan)

-- in each round each correct node hears the states of all nodes that it does not miss then
abbrev pub AreHeard : Plan → (faulty : List ℕ) → Nodes → (begins : ℕ → ℕ) → (rounds : ℕ) → Type 0
AreHeard plan = losses.AreHeard (machine_of_plan plan)
