-- Nodes of a run that hold at the outputs that they show.
use Rattle.std.specs.Prelude.{◌≡◌, ℕ, ◌<◌, ◌≤◌, List, length, false}
use Rattle.sync_types.specs.States.{State}
use Rattle.construction.specs.Plans.{Plan, plan_nodes, plan_bound, plan_depth}
use Rattle.construction.specs.Shown.{shown}
use Rattle.construction.specs.Steps.{state_of}
use Rattle.construction.specs.Runs.{is_in, configuration, IsToleratedBy, Run}
use Rattle.plan_numbers.specs.Premises.{IsAccepted}
use Rattle.slot_table.specs.declared.lines.SlotLine.{SlotLine}
use Rattle.slot_table.specs.Tables.{Holds, AreApart}

-- node v is correct, and holds at the output that it shows
pub record HoldsIn (plan : Plan) (lines : List SlotLine) (faulty : List ℕ) (config : List State)
    (v : ℕ) : Type 0 where
  pub node : v < plan_nodes plan
  pub correct : is_in faulty v ≡ false
  pub holds : Holds lines v (shown (plan_depth plan) (state_of config v))

-- In each configuration of a run of an accepted plan, from the bound on, at most one correct node
-- holds.
abbrev pub AtMostOneHolds : Type 0
AtMostOneHolds = (plan : Plan) → IsAccepted plan → (lines : List SlotLine) → AreApart lines
    → (faulty : List ℕ) (run : List (List State)) → IsToleratedBy plan faulty → Run plan faulty run
    → (t : ℕ) → plan_bound plan ≤ t → t < length run
    → (u v : ℕ) → HoldsIn plan lines faulty (configuration run t) u
    → HoldsIn plan lines faulty (configuration run t) v → u ≡ v
