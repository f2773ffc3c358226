-- There are inputs of calls of `node` that meet each premise of what is promised of these.
use Rattle.std.specs.Prelude.{◌≡◌, ℕ, ◌+◌, ◌<◌, ◌≤◌, List}
use Rattle.sync_types.specs.States.{State}
use Rattle.sync_types.specs.declared.status.Status.TheVariants as status
use Rattle.construction.specs.Plans.{Plan, plan_depth}
use Rattle.construction.specs.Runs.{IsState}
use Rattle.plan_numbers.specs.Premises.{IsAccepted}
use Rattle.plan_laws.specs.VersionLaws.{in_version}
use Rattle.plan_machine.specs.PlanMachines.{machine_of_plan}
use Rattle.plan_machine.specs.NodeRuns.{IsCorrect, AreMissed}
use Rattle.node_words.specs.Inputs as joined
use Rattle.node_words.specs.LossyInputs as lossy
use Rattle.node_words.specs.RestartInputs as restarted
use Rattle.node_words.specs.ResumedInputs as resumed
use Rattle.node_words.specs.RestartInputs.{calls_of, restart_of, restart_with}
use Rattle.outcomes.specs.NodeAnswers.{node_outcome}
use Rattle.outcomes.specs.PlanWords.{plan_words}
use Rattle.promises.specs.CallWindows.{NameThePlan, CallsConnect}
use Rattle.promises.specs.Restarts.{calls_after, begins_after, AreFaultyMeanwhile}
use Rattle.node_stepper.specs.Packets.{most_packets}

-- a header has a line for each level, three of the plan, and four of the node
abbrev pub header_lines : Plan → ℕ
header_lines plan = plan_depth plan + 7

-- Versions in which the plan can be written, that of node v's header `versions v`: none before its
-- own.
abbrev pub AreVersions : Plan → (versions : ℕ → ℕ) → Type 0
AreVersions plan versions = (v : ℕ) → (plan.version ≤ versions v) × (versions v ≤ 2)

-- the plan that the header of node v states
abbrev pub plans_in : Plan → (versions : ℕ → ℕ) → ℕ → Plan
plans_in plan versions v = in_version (versions v) plan

module _ (plan : Plan) (versions : ℕ → ℕ) (faulty : List ℕ) (starts : ℕ → State)
    (sent : ℕ → ℕ → ℕ → List ℕ) where
  -- Inputs of connected calls whose nodes begin in these states and are given these bytes, as those
  -- of any construction; the header of each states the plan in its version, and each ends with the
  -- status Ok.
  pub record InputsConnect (begins : ℕ → ℕ) (rounds : ℕ) : Type 0 where
    pub made : joined.InputsConnect plan_words header_lines (machine_of_plan plan)
        (plans_in plan versions) faulty starts sent begins rounds
    pub connect : CallsConnect plan faulty (calls_of made.inputs) begins rounds
    pub ok : (v : ℕ) → IsCorrect plan faulty v → (node_outcome (made.inputs v)).status ≡ status.Ok

  -- the same of calls to which cells are lost
  pub record InputsLose (missed : (i v : ℕ) → List ℕ) (begins : ℕ → ℕ) (rounds : ℕ) : Type 0 where
    pub made : lossy.InputsLose plan_words header_lines (machine_of_plan plan)
        (plans_in plan versions) faulty starts sent missed begins rounds
    pub names : NameThePlan plan faulty (calls_of made.inputs)
    pub ok : (v : ℕ) → IsCorrect plan faulty v → (node_outcome (made.inputs v)).status ≡ status.Ok

module _ (plan : Plan) (versions : ℕ → ℕ) (faulty meanwhile : List ℕ) (node after : ℕ)
    (starts : ℕ → State) (sent : ℕ → ℕ → ℕ → List ℕ) (begins : ℕ → ℕ) (rounds : ℕ) where
  -- of calls of which one is started anew
  pub record InputsRestart : Type 0 where
    pub made : restarted.InputsRestart plan_words header_lines (machine_of_plan plan)
        (plans_in plan versions) faulty meanwhile node after starts sent begins rounds
    pub all : CallsConnect plan meanwhile (calls_of made.inputs) begins (after + rounds)
    pub rest : CallsConnect plan faulty
        (calls_after (restart_of made.inputs node after) (calls_of made.inputs))
        (begins_after (restart_of made.inputs node after) begins) rounds
    pub ok : (v : ℕ) → IsCorrect plan faulty v → (node_outcome (made.inputs v)).status ≡ status.Ok

  -- and of calls of which one ends, and another one goes on from its last cell
  pub record InputsResume : Type 0 where
    pub made : resumed.InputsResume plan_words header_lines (machine_of_plan plan)
        (plans_in plan versions) faulty meanwhile node after starts sent begins rounds
    pub all : CallsConnect plan meanwhile (calls_of made.inputs) begins (after + rounds)
    pub rest : CallsConnect plan faulty
        (calls_after (restart_with node after made.resumed) (calls_of made.inputs))
        (begins_after (restart_with node after made.resumed) begins) rounds
    pub ok : (v : ℕ) → IsCorrect plan meanwhile v
        → (node_outcome (made.inputs v)).status ≡ status.Ok
    pub ok_before : (node_outcome (made.inputs node)).status ≡ status.Ok
    pub ok_resumed : (node_outcome made.resumed).status ≡ status.Ok

-- There are such inputs, in whichever of its versions the header of each node states the plan,
-- whatever states of theirs the correct nodes begin in, wherever the window begins in each of them,
-- and whatever is sent.
abbrev pub AnyInputsConnect : Type 0
AnyInputsConnect = (plan : Plan) → IsAccepted plan → (versions : ℕ → ℕ)
    → AreVersions plan versions → (faulty : List ℕ) (starts : ℕ → State)
    (sent : ℕ → ℕ → ℕ → List ℕ) (begins : ℕ → ℕ) (rounds : ℕ)
    → ((v : ℕ) → begins v + rounds ≤ most_packets)
    → ((v : ℕ) → IsCorrect plan faulty v → IsState plan v (starts v))
    → InputsConnect plan versions faulty starts sent begins rounds

-- whichever nodes each of them misses
abbrev pub AnyInputsLose : Type 0
AnyInputsLose = (plan : Plan) → IsAccepted plan → (versions : ℕ → ℕ)
    → AreVersions plan versions → (faulty : List ℕ) (starts : ℕ → State)
    (sent : ℕ → ℕ → ℕ → List ℕ) (missed : (i v : ℕ) → List ℕ) (begins : ℕ → ℕ) (rounds : ℕ)
    → ((v : ℕ) → begins v + rounds ≤ most_packets)
    → ((v : ℕ) → IsCorrect plan faulty v → IsState plan v (starts v))
    → ((i v : ℕ) → i < rounds → IsCorrect plan faulty v
    → AreMissed plan faulty v (missed i v))
    → InputsLose plan versions faulty starts sent missed begins rounds

-- after however many rounds one is started anew
abbrev pub AnyInputsRestart : Type 0
AnyInputsRestart = (plan : Plan) → IsAccepted plan → (versions : ℕ → ℕ)
    → AreVersions plan versions → (faulty meanwhile : List ℕ)
    (node after : ℕ) → AreFaultyMeanwhile node faulty meanwhile → (starts : ℕ → State)
    (sent : ℕ → ℕ → ℕ → List ℕ) (begins : ℕ → ℕ) (rounds : ℕ)
    → ((v : ℕ) → begins v + (after + rounds) ≤ most_packets)
    → ((v : ℕ) → IsCorrect plan faulty v → IsState plan v (starts v))
    → InputsRestart plan versions faulty meanwhile node after starts sent begins rounds

-- or is handed the last cell that was written in its place
abbrev pub AnyInputsResume : Type 0
AnyInputsResume = (plan : Plan) → IsAccepted plan → (versions : ℕ → ℕ)
    → AreVersions plan versions → (faulty meanwhile : List ℕ)
    (node after : ℕ) → AreFaultyMeanwhile node faulty meanwhile → IsCorrect plan faulty node
    → (starts : ℕ → State) (sent : ℕ → ℕ → ℕ → List ℕ) (begins : ℕ → ℕ) (rounds : ℕ)
    → ((v : ℕ) → begins v + (after + rounds) ≤ most_packets)
    → ((v : ℕ) → IsCorrect plan faulty v → IsState plan v (starts v))
    → InputsResume plan versions faulty meanwhile node after starts sent begins rounds

-- all of these
pub record AnyCallInputs : Type 0 where
  pub connect : AnyInputsConnect
  pub lose : AnyInputsLose
  pub restart : AnyInputsRestart
  pub resume : AnyInputsResume
