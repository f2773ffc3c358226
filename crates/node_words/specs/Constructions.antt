-- A construction whose nodes are served.
use Rattle.std.specs.Prelude.{◌≡◌, ◌<◌, ℕ, List}
use Rattle.state_codec.specs.Shapes.{fields_at, shape_nodes}
use Rattle.machines.specs.Machines.{Machine}
use Rattle.node_words.specs.HeaderParts.{PlanPart}

-- how the plan of a header is read, which machine a plan is, and the line that refuses a line of it
pub record Words (Reader Plan Premise : Type 0) : Type 0 where
  pub part : PlanPart Reader Plan Premise
  pub machine : Plan → Machine
  pub refusal : (line : ℕ) → Premise → List ℕ

-- the shape with which states of a plan are read is that of its machine's states
pub record IsShaped {Reader Plan Premise : Type 0} (words : Words Reader Plan Premise)
    (plan : Plan) : Type 0 where
  pub nodes : shape_nodes (words.part.shape plan) ≡ (words.machine plan).nodes
  pub fields : (v : ℕ) → v < (words.machine plan).nodes
      → fields_at (words.part.shape plan) v ≡ (words.machine plan).fields v
