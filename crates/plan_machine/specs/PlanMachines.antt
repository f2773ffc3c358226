-- A boosting plan as a machine, whose runs are those of the construction.
use Rattle.std.specs.Prelude.{ℕ, ◌<◌, ◌↔◌, Option, Some, None, List, [], ◌∷◌, length}
use Rattle.sync_types.specs.States.{State}
use Rattle.construction.specs.Plans.{Level, Plan, plan_nodes, plan_faults, plan_modulus, plan_bound}
use Rattle.construction.specs.Plans.{plan_depth}
use Rattle.construction.specs.Shown.{shown}
use Rattle.construction.specs.Steps.{step_of}
use Rattle.construction.specs.Runs as plan_runs
use Rattle.plan_numbers.specs.Premises.{IsAccepted}
use Rattle.state_codec.specs.Shapes.{shape_of, fields_at}
use Rattle.machines.specs.Machines as machines
use Rattle.machines.specs.Machines.{Machine}
use Rattle.machines.specs.Laws.{IsSound}

-- the register of the top level; one node has none
abbrev pub lock_of : List Level → Option ℕ
lock_of [] = None
lock_of (level ∷ below) = Some (length below)

-- the machine that a plan is
abbrev pub machine_of_plan : Plan → Machine
machine_of_plan plan = record {
  nodes = plan_nodes plan;
  faults = plan_faults plan;
  modulus = plan_modulus plan;
  bound = plan_bound plan;
  depth = plan_depth plan;
  fields = λ v. fields_at (shape_of plan) v;
  shows = λ v state. shown (plan_depth plan) state;
  step = step_of plan;
  lock = lock_of plan.levels;
}

-- the words of the construction say the same as those of machines
pub record AreAlike (plan : Plan) : Type 0 where
  pub states : (v : ℕ) (state : State) → v < plan_nodes plan
      → plan_runs.IsState plan v state ↔ machines.IsState (machine_of_plan plan) v state
  pub borne : (faulty : List ℕ)
      → plan_runs.IsToleratedBy plan faulty ↔ machines.IsToleratedBy (machine_of_plan plan) faulty
  pub configurations : (config : List State)
      → plan_runs.IsConfiguration plan config
      ↔ machines.IsConfiguration (machine_of_plan plan) config
  pub rounds : (faulty : List ℕ) (old : List State) (lies : List (List State)) (new : List State)
      → plan_runs.Round plan faulty old lies new
      ↔ machines.Round (machine_of_plan plan) faulty old lies new
  pub runs : (faulty : List ℕ) (run : List (List State))
      → plan_runs.Run plan faulty run ↔ machines.Run (machine_of_plan plan) faulty run
  pub counts : (faulty : List ℕ) (run : List (List State)) (from : ℕ)
      → plan_runs.CountsFrom plan faulty run from
      ↔ machines.CountsFrom (machine_of_plan plan) faulty run from
  pub locks : (faulty : List ℕ) (config : List State)
      → plan_runs.IsLocked plan faulty config
      ↔ machines.IsLocked (machine_of_plan plan) faulty config
  pub settles : plan_runs.Settles plan ↔ machines.Settles (machine_of_plan plan)

-- Each accepted plan is a machine, with the same runs.
abbrev pub PlansAreMachines : Type 0
PlansAreMachines = (plan : Plan) → IsAccepted plan → AreAlike plan

-- Each accepted plan is a sound one.
abbrev pub AcceptedAreSound : Type 0
AcceptedAreSound = (plan : Plan) → IsAccepted plan → IsSound (machine_of_plan plan)
