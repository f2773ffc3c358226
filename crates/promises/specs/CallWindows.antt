-- Calls of `node`, one for each node of a plan, over a window of rounds.
use Rattle.std.specs.Prelude.{ℕ, ◌+◌, ◌≤◌, List, Option, IsSome}
use Rattle.sync_types.specs.States.{State}
use Rattle.construction.specs.Plans.{Plan, plan_bound}
use Rattle.construction.specs.Runs.{IsToleratedBy, IsLocked}
use Rattle.plan_machine.specs.PlanMachines.{machine_of_plan}
use Rattle.plan_machine.specs.NodeRuns.{IsCorrect, SomeIsCorrect}
use Rattle.plan_machine.specs.Laws.{RunThrough, CountThrough, StayLockedThrough}
use Rattle.node_words.specs.CallWindows as any
use Rattle.outcomes.specs.PlanWords.{plan_words}
use Rattle.promises.specs.NodeCalls.{Call, IsOfNode}

-- of a call for each node
module _ (plan : Plan) (calls : ℕ → Call) where
  -- cell t of what that of node v writes
  abbrev pub cell_written : (t v : ℕ) → Option (List ℕ)
  cell_written = any.cell_written plan_words (machine_of_plan plan) calls

  -- The configuration after i rounds of a window, by the states that the cells stand for. It begins
  -- in each call at a packet of its own, `begins v` in that of node v, since each process counts
  -- its packets from when it was started.
  abbrev pub states_written : (begins : ℕ → ℕ) → (i : ℕ) → List State
  states_written = any.states_written plan_words (machine_of_plan plan) calls

-- the header of each correct node's call names that node of the plan, in either version
abbrev pub NameThePlan : Plan → (faulty : List ℕ) → (calls : ℕ → Call) → Type 0
NameThePlan plan faulty calls = (v : ℕ) → IsCorrect plan faulty v → IsOfNode plan v (calls v)

module _ (plan : Plan) (faulty : List ℕ) (calls : ℕ → Call) (begins : ℕ → ℕ) (rounds : ℕ) where
  -- Each correct node is a call of its own, with packets for so many rounds. In each round the cell
  -- of each other correct node is the one that this writes after as many rounds. The cells of
  -- faulty nodes are any bytes, and so are all cells of the packets before the window.
  pub record CallsConnect : Type 0 where
    pub headers : NameThePlan plan faulty calls
    pub connect : any.CallsConnect plan_words (machine_of_plan plan) faulty calls begins rounds

  -- Cells are lost, or late: in each round each correct node is given the cells of all nodes that
  -- it does not miss then. It misses at most F, faulty ones among them, in each round others, and
  -- never itself. Of those that it misses the cells are any bytes.
  pub record CallsAreHeard : Type 0 where
    pub headers : NameThePlan plan faulty calls
    pub heard : any.CallsAreHeard plan_words (machine_of_plan plan) faulty calls begins rounds

  -- The cells that the correct nodes write in the window are the states of a run. They count so
  -- many rounds later as the bound says, are locked there, and from any locked configuration on
  -- they stay so and count.
  pub record NodesKeepPromise : Type 0 where
    pub written : (t v : ℕ) → t ≤ begins v + rounds → IsCorrect plan faulty v
        → IsSome (cell_written plan calls t v)
    pub run : RunThrough plan faulty (states_written plan calls begins) rounds
    pub settles :
        CountThrough plan faulty (states_written plan calls begins) (plan_bound plan) rounds
    pub locks : plan_bound plan ≤ rounds
        → IsLocked plan faulty (states_written plan calls begins (plan_bound plan))
    pub stays : (from : ℕ) → from ≤ rounds
        → IsLocked plan faulty (states_written plan calls begins from)
        → StayLockedThrough plan faulty (states_written plan calls begins) from rounds

-- Whichever nodes are faulty that the plan tolerates, if one is left that is correct, connected
-- calls keep the promise.
abbrev pub ConnectedCallsCount : Type 0
ConnectedCallsCount = (plan : Plan) (faulty : List ℕ) → IsToleratedBy plan faulty
    → SomeIsCorrect plan faulty → (calls : ℕ → Call) (begins : ℕ → ℕ) (rounds : ℕ)
    → CallsConnect plan faulty calls begins rounds
    → NodesKeepPromise plan faulty calls begins rounds

-- From any locked configuration on, calls stay locked and count even if cells are lost, as long as
-- each correct node is given in each round the cells of N - F correct nodes, its own among them.
abbrev pub HeardCallsStayLocked : Type 0
HeardCallsStayLocked = (plan : Plan) (faulty : List ℕ) → IsToleratedBy plan faulty
    → SomeIsCorrect plan faulty → (calls : ℕ → Call) (begins : ℕ → ℕ) (rounds : ℕ)
    → CallsAreHeard plan faulty calls begins rounds → (from : ℕ) → from ≤ rounds
    → IsLocked plan faulty (states_written plan calls begins from)
    → StayLockedThrough plan faulty (states_written plan calls begins) from rounds
