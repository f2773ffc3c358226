-- What the faulty nodes tell a node, in the order of their ids, and what it hears of all.
use Rattle.std.specs.Prelude.{◌≡◌, ℕ, ◌<◌, ◌==◌, List, length, map, slice_index, All}
use Rattle.std.specs.Prelude.{if◌then◌else◌}
use Rattle.std.specs.List.{range_with_len}
use Rattle.sync_types.specs.States.{State}
use Rattle.construction.specs.Plans.{Plan, plan_nodes}
use Rattle.construction.specs.Runs.{heard_by}
use Rattle.construction.specs.Steps.{state_of}
use Rattle.plan_laws.specs.PlanMeaning.{IsInRange}
use Rattle.state_codec.specs.Shapes.{fields_at}
use Rattle.state_codec.specs.Ranges.{InRange}
use Rattle.adversary_script.specs.Scripts.{Script}
use Rattle.round_runner.specs.declared.hearers.Hearer.{Hearer}

-- a state of some node of a script
pub record IsOfSome (script : Script) (state : State) : Type 0 where
  pub node : ℕ
  pub inside : node < script.nodes
  pub range : InRange (fields_at script.shape node) state

-- each is a state of some node
abbrev pub AreOfNodes : Script → (states : List State) → Type 0
AreOfNodes script states = All (IsOfSome script) states

-- They are as many as there are nodes, and each is a state that the plan's counter takes, with so
-- many registers. A place may hold what a faulty node of another era told.
pub record AreLies (plan : Plan) (depth : ℕ) (lies : List State) : Type 0 where
  pub size : length lies ≡ plan_nodes plan
  pub deep : All (λ s. length s.registers ≡ depth) lies
  pub range : All (IsInRange plan) lies

-- in the order of the faulty nodes' ids: node v, if it is faulty, tells itself its own state
abbrev pub TellsItself : (ids : List ℕ) → (v : ℕ) → (config lies : List State) → Type 0
TellsItself ids v config lies = (j : ℕ) → j < length ids → slice_index ids j ≡ v
    → state_of lies j ≡ state_of config v

-- what it hears of a faulty node, if from a configuration each node says this to each other
abbrev pub told_by : Hearer → (says : List State → (u v : ℕ) → State) → (u : ℕ) → State
told_by h says u = if u == h.v then state_of h.states.now.current u
    else says h.states.now.current u h.v

-- and what it hears of all nodes
abbrev pub heard_of_all : Hearer → (says : List State → (u v : ℕ) → State) → List State
heard_of_all h says =
    let n = plan_nodes h.tower.now in
    let config = h.states.now.current in
    heard_by n h.faulty.now.ids config
    (map (λ u. map (λ w. says config u w) (range_with_len 0 n)) (range_with_len 0 n)) h.v
