-- A node of a plan over packets, in the words of a node of any machine.
use Rattle.std.specs.Prelude.{ℕ, List}
use Rattle.sync_types.specs.States.{State}
use Rattle.construction.specs.Plans.{Plan}
use Rattle.state_codec.specs.Shapes.{Fields, shape_of, fields_at}
use Rattle.plan_machine.specs.PlanMachines.{machine_of_plan}
use Rattle.node_stepper.specs.Nodes as any

-- the fields of node v
abbrev pub fields_of : Plan → (v : ℕ) → Fields
fields_of plan v = fields_at (shape_of plan) v

-- the cell of a state of node v
abbrev pub state_cell : Plan → (v : ℕ) → State → List ℕ
state_cell plan = any.state_cell (machine_of_plan plan)

-- what it hears of node u by a packet, and of all nodes
abbrev pub heard_of : Plan → (v : ℕ) → State → (packet : List (List ℕ)) → (u : ℕ) → State
heard_of plan = any.heard_of (machine_of_plan plan)

abbrev pub heard_in : Plan → (v : ℕ) → State → (packet : List (List ℕ)) → List State
heard_in plan = any.heard_in (machine_of_plan plan)

-- its state after a packet, after packets, and all of them
abbrev pub state_after : Plan → (v : ℕ) → State → List (List ℕ) → State
state_after plan = any.state_after (machine_of_plan plan)

abbrev pub state_behind : Plan → (v : ℕ) → State → List (List (List ℕ)) → State
state_behind plan = any.state_behind (machine_of_plan plan)

abbrev pub states_of : Plan → (v : ℕ) → State → List (List (List ℕ)) → List State
states_of plan = any.states_of (machine_of_plan plan)

-- what it writes: the cell of each of its states
abbrev pub node_text : Plan → (v : ℕ) → State → List (List (List ℕ)) → List ℕ
node_text plan = any.node_text (machine_of_plan plan)
