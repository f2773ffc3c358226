-- What the faulty nodes tell, as far as they are many.
use Rattle.std.proofs.Common.{◌≡◌, ℕ, ◌≤◌, List, length, take, All, arith}
use Rattle.std.proofs.lemmas.List.Elements.{All-take, All-weaker}
use Rattle.sync_types.specs.States.{State}
use Rattle.construction.specs.Plans.{Plan, plan_depth}
use Rattle.plan_laws.specs.PlanMeaning.{IsInRange}
use Rattle.tower.specs.Told.{AreTold}
use Rattle.adversary_script.specs.Scripts.{Script}
use Rattle.adversary_script.proofs.LiesInRange.{depth_of_node}
use Rattle.round_runner.specs.Hearing.{AreOfNodes, AreLies}

-- states of nodes have the depth of the shape
pub deep_states : (script : Script) (states : List State) → AreOfNodes script states
    → All (λ (s : State). length s.registers ≡ script.shape.depth) states
deep_states script states are = λ k d lt.
    let some = are k d lt in depth_of_node script.shape some.node _ some.range

-- the first of the lies are states that the plan's counter takes
pub taken_told : (plan : Plan) (depth : ℕ) (lies : List State) → AreLies plan depth lies
    → plan_depth plan ≤ depth → (q : ℕ) → AreTold plan (take q lies)
taken_told plan depth lies are room q = record {
  range = All-take (IsInRange plan) q lies are.range;
  deep = All-take (λ (s : State). plan_depth plan ≤ length s.registers) q lies
      (All-weaker (λ (s : State). length s.registers ≡ depth)
      (λ (s : State). plan_depth plan ≤ length s.registers)
      (λ s deep. omega (arith, deep, room)) lies are.deep);
}
