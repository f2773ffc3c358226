-- What the shape and the tower of a plan give is what its machine says.
use Rattle.std.proofs.Common.{◌≡◌, ℕ, ◌-◌, ◌<◌, ◌≤◌, List, [], ◌∷◌, length}
use Rattle.std.proofs.Common.{Option, Some, None, All, refl, ap, ◌∙◌, subst, arith}
use Rattle.std.specs.Prelude.{SomeIff}
use Rattle.sync_types.specs.States.{State, zero_state}
use Rattle.construction.specs.Plans.{Level, Plan, plan_nodes, plan_depth}
use Rattle.construction.specs.Steps.{state_of}
use Rattle.construction.specs.Runs.{IsState}
use Rattle.plan_laws.specs.PlanMeaning.{IsInRange}
use Rattle.plan_laws.proofs.PlanCounter.{positive}
use Rattle.counter_core.proofs.StateLists.{within}
use Rattle.plan_laws.proofs.Ranges.{range_of_state, range_from_cut}
use Rattle.state_codec.specs.Shapes.{Shape, shape_of, fields_at, moduli_of, shape_nodes}
use Rattle.state_codec.specs.Ranges.{InRange}
use Rattle.state_codec.proofs.Plans.{depth_of_shape, nodes_of_shape}
use Rattle.state_codec.proofs.PlanStates.{state_of_node}
use Rattle.counter_core.specs.Meanings.{cut}
use Rattle.machines.specs.Machines.{IsFront, AreFronts}
use Rattle.plan_machine.specs.PlanMachines.{machine_of_plan, lock_of}
use Rattle.plan_machine.specs.Kept.{IsValidPlanMachine}

-- the register of the top level is the last of all
pub lock_is : (levels : List Level) (last : Option ℕ)
    → SomeIff last (1 ≤ length levels) (length levels - 1) → last ≡ lock_of levels
lock_is [] None is = refl
lock_is [] (Some register) is = absurd (omega (arith, is.0))
lock_is (level ∷ below) None is = absurd (is (omega arith))
lock_is (level ∷ below) (Some register) is = ap Some (omega (arith, is.1))

module _ (plan : Plan) (shape : Shape) (kept : IsValidPlanMachine plan shape) where
  pub node_of_shape : (v : ℕ) → v < plan_nodes plan → v < shape_nodes shape
  node_of_shape v lt = rw (kept.shaped, nodes_of_shape plan (moduli_of plan.levels)) lt

  pub moduli_are : shape.depth ≡ plan_depth plan
  moduli_are = ap (λ (s : Shape). s.depth) kept.shaped ∙ depth_of_shape plan

  pub fields_are : (v : ℕ) → fields_at shape v ≡ fields_at (shape_of plan) v
  fields_are v = ap (λ (s : Shape). fields_at s v) kept.shaped

  pub state_is : (v : ℕ) → v < plan_nodes plan → (s : State)
      → InRange (fields_at (shape_of plan) v) s → IsState plan v s
  state_is v lt s range = state_of_node plan kept.accepted v lt s range

  pub range_is : (v : ℕ) → v < plan_nodes plan → (s : State)
      → InRange (fields_at (shape_of plan) v) s → IsInRange plan s
  range_is v lt s range =
      let some = positive plan.base plan.levels kept.accepted.levels in
      range_of_state plan some.0 some.1 v s (state_is v lt s range)

  -- and with further registers after them
  pub front_range : (v : ℕ) → v < plan_nodes plan → (s : State)
      → IsFront (machine_of_plan plan) v s → IsInRange plan s
  front_range v lt s is =
      let cut_range = range_is v lt (cut (plan_depth plan) s) is.front in
      record {
        x = cut_range.x;
        values = range_from_cut plan.levels (plan_depth plan) (omega arith) s cut_range.values;
      }

  module _ (heard : List State) (is : AreFronts (machine_of_plan plan) heard) where
    all_of : (P : State → Type 0) → ((v : ℕ) → v < plan_nodes plan → (s : State)
        → IsFront (machine_of_plan plan) v s → P s)
        → All P heard
    all_of P holds = λ k d lt.
        let node : k < plan_nodes plan = omega (arith, lt, is.size) in
        subst P (within heard k (zero_state 0) d lt)
        (holds k node (state_of heard k) (is.fronts k node))

    pub deep_enough : All (λ s. plan_depth plan ≤ length s.registers) heard
    deep_enough = all_of (λ s. plan_depth plan ≤ length s.registers)
        (λ v node s has. has.deep)

    pub in_range : All (IsInRange plan) heard
    in_range = all_of (IsInRange plan) front_range
