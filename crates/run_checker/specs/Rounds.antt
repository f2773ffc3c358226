-- What is told in a round, by the order of the pairs, and the steps of all nodes from it.
use Rattle.std.specs.Prelude.{◌≡◌, ℕ, ◌&&◌, ◌==◌, List, [], ◌∷◌, length, map, All, if◌then◌else◌}
use Rattle.std.specs.List.{range_with_len}
use Rattle.sync_types.specs.States.{State, zero_state}
use Rattle.sync_types.specs.FaultSets.{FaultIds, is_in}
use Rattle.construction.specs.Plans.{Plan, plan_nodes, plan_depth}
use Rattle.construction.specs.Steps.{step_of}
use Rattle.construction.specs.Runs.{heard_by}
use Rattle.state_codec.specs.Shapes.{shape_of}
use Rattle.state_codec.specs.Packs.{Pack}
use Rattle.shared_board.specs.Sharing.{stands_for}
use Rattle.run_checker.specs.Grammar.{pairs_of}
use Rattle.plan_laws.specs.PlanMeaning.{IsInRange}
use Rattle.round_runner.specs.declared.told_steps.StepBuffers.{StepBuffers}
use Rattle.round_runner.specs.Rooms.{IsMadeFor}
use Rattle.run_checker.specs.Tellings.{Telling}

-- what u tells v: the state told for the first pair of both, or the zero state if there is none
abbrev pub told_for : (depth : ℕ) → List (ℕ × ℕ) → List State → (u v : ℕ) → State
told_for depth [] states u v = zero_state depth
told_for depth (pair ∷ pairs) [] u v = zero_state depth
told_for depth (pair ∷ pairs) (state ∷ states) u v =
    if pair.0 == u && pair.1 == v then state else told_for depth pairs states u v

-- what each node tells each other
abbrev pub told_table : (n depth : ℕ) → List (ℕ × ℕ) → List State → List (List State)
told_table n depth pairs told =
    map (λ u. map (λ v. told_for depth pairs told u v) (range_with_len 0 n)) (range_with_len 0 n)

-- the state of node v after a round
abbrev pub stepped_at : Plan → (faulty : List ℕ) → List State → List (ℕ × ℕ) → List State → (v : ℕ)
    → State
stepped_at plan faulty config pairs told v =
    step_of plan v (heard_by (plan_nodes plan) faulty config
    (told_table (plan_nodes plan) (plan_depth plan) pairs told) v)

-- the configuration after a round, with the new faulty nodes in the zero state
abbrev pub stepped_all : Plan → (faulty new : List ℕ) → List State → List (ℕ × ℕ) → List State
    → List State
stepped_all plan faulty new config pairs told =
    map (λ v. if is_in new v then zero_state (plan_depth plan)
    else stepped_at plan faulty config pairs told v)
    (range_with_len 0 (plan_nodes plan))

-- the state of node v in it, if its faulty nodes tell all that they have to
abbrev pub state_next : Plan → (faulty new : List ℕ) → (config told : List State) → (v : ℕ) → State
state_next plan faulty new config told v =
    if is_in new v then zero_state (plan_depth plan)
    else stepped_at plan faulty config (pairs_of (plan_nodes plan) faulty) told v

-- states that the plan's counter takes
pub record AreStates (plan : Plan) (states : List State) : Type 0 where
  pub deep : All (λ s. length s.registers ≡ plan_depth plan) states
  pub range : All (IsInRange plan) states

-- all that the faulty nodes of a round of a plan tell was told
pub record IsTold (plan : Plan) (faulty : FaultIds) (telling : Telling) : Type 0 where
  pub nodes : faulty.nodes ≡ plan_nodes plan
  pub whole : length telling.states ≡ length (pairs_of (plan_nodes plan) faulty.ids)
  pub states : AreStates plan telling.states
  pub shape : telling.shape ≡ shape_of plan

-- the current one of two configurations is one of the plan
pub record IsConfig (plan : Plan) (config : Pack) : Type 0 where
  pub size : length config.current ≡ plan_nodes plan
  pub shape : config.shape ≡ shape_of plan

-- and the room is ready, and has counted the correct nodes in it; what the others tell are states
pub record IsGathered (plan : Plan) (faulty : List ℕ) (told : List State) (config : Pack)
    (room : StepBuffers) : Type 0 where
  pub said : AreStates plan told
  pub is : IsConfig plan config
  pub ready : IsMadeFor plan (plan_depth plan) room
  pub stands : room.shared ≡ stands_for plan config.current faulty
