-- A shape of states fits a counter with a layer above.
use Rattle.std.specs.Prelude.{◌≡◌, ℕ, ◌+◌, ◌<◌, ◌≤◌, List, [], ◌∷◌, ◌++◌, length, Option, Some}
use Rattle.std.specs.Prelude.{None, IfSome}
use Rattle.std.proofs.Props.{props}
use Rattle.sync_types.specs.States.{State, register_at}
use Rattle.sync_types.specs.declared.states.Reg.{Reg}
use Rattle.construction.specs.Plans.{Level, Plan, plan_depth, plan_nodes}
use Rattle.plan_laws.specs.PlanMeaning.{InRange as IsCounted, IsInRange}
use Rattle.state_codec.specs.Shapes.{Shape, fields_at, shape_nodes}
use Rattle.state_codec.specs.Ranges.{InRange}
use Rattle.counter_core.specs.Meanings.{Meaning}
use Rattle.counter_core.specs.Overlays.{Layer, HasValues, AreBelow}

-- A state of a node of the shape is one that the counter and the layer take, and a step of the node
-- with registers of the layer after its own gives a state of it.
pub record ShapeFits {Kept : Type 0} (shape : Shape) (counter : Meaning) (in_range : State → Type 0)
    (layer : Layer Kept) : Type 0 where
  pub nodes : shape_nodes shape ≡ counter.nodes
  pub depth : shape.depth ≡ counter.depth + layer.extra
  pub counts : (v : ℕ) → v < counter.nodes → (s : State) → InRange (fields_at shape v) s
      → in_range s
  pub values : (v : ℕ) → v < counter.nodes → (s : State) → InRange (fields_at shape v) s
      → HasValues layer s
  pub stepped : (v : ℕ) → v < counter.nodes → (heard : List State) (registers : List Reg)
      → length registers ≡ layer.extra → AreBelow layer.values registers
      → InRange (fields_at shape v) (record {
        x = (counter.next v heard).x;
        registers = (counter.next v heard).registers ++ registers;
      })

-- the counter of a plan takes the states of a shape
pub record TakesStates (plan : Plan) (shape : Shape) : Type 0 where
  pub deep : plan_depth plan ≤ shape.depth
  pub counts : (v : ℕ) → v < plan_nodes plan → (s : State)
      → InRange (fields_at shape v) s → IsInRange plan s

below_prop : (modulus : ℕ) (value : Option ℕ) → IsProp (IfSome value (λ a. a < modulus))
below_prop modulus None = Prim.hlevel props
below_prop modulus (Some a) = Prim.hlevel props

range_prop : (levels : List Level) (state : State) → IsProp (IsCounted levels state)
range_prop [] state = Prim.hlevel props
range_prop (level ∷ below) state =
    let lower = range_prop below state in
    let value = below_prop level.modulus (register_at (length below) state).a in
    Prim.hlevel (props, lower, value)

-- it has one proof at most
pub takes_prop : {plan : Plan} {shape : Shape} → IsProp (TakesStates plan shape)
takes_prop = Prim.hlevel (props, range_prop)
