-- Explanations of runs of a plan with a level on top: a window in which all sound blocks of that
-- level point to one leader, and in it a phase under a correct king.
use Rattle.std.specs.Prelude.{ℕ, ◌+◌, ◌-◌, ◌<◌, List, length}
use Rattle.sync_types.specs.States.{State}
use Rattle.construction.specs.Plans.{Level, Plan, plan_nodes, plan_faults, plan_depth, plan_bound}
use Rattle.construction.specs.Shown.{shown}
use Rattle.construction.specs.Steps.{state_of}
use Rattle.construction.specs.Runs.{is_in, configuration, Run, IsToleratedBy, IsLocked}
use Rattle.plan_numbers.specs.Numbers.{with_level}
use Rattle.plan_numbers.specs.Premises.{IsAccepted}
use Rattle.plan_laws.specs.Explained.{Explains, IsExplained}

-- the inner output of node v in configuration r: what it shows to the level on top
abbrev pub inner_in : (below : Plan) (run : List (List State)) (r v : ℕ) → ℕ
inner_in below run r v = shown (plan_depth below) (state_of (configuration run r) v)

-- The window of block b begins in configuration t, and in it the phase of king k in configuration
-- s.
abbrev pub ExplainsRun : (below : Plan) (level : Level) (faulty : List ℕ) (run : List (List State))
    → (t b s k : ℕ) → Type 0
ExplainsRun below level faulty run t b s k =
    Explains level (plan_nodes below) (plan_faults below) (is_in faulty) (length run - 1)
    (inner_in below run) t b s k

-- What is explained is locked when the phase has ended.
abbrev pub ExplainedRunsLock : Type 0
ExplainedRunsLock = (below : Plan) (level : Level) → IsAccepted (with_level below level)
    → (faulty : List ℕ) (run : List (List State)) → IsToleratedBy (with_level below level) faulty
    → Run (with_level below level) faulty run
    → (t b s k : ℕ) → ExplainsRun below level faulty run t b s k
    → IsLocked (with_level below level) faulty (configuration run (s + 3))

-- Each run that reaches the bound has an explanation, whose window lies between the bound of the
-- plan below and the bound.
abbrev pub BoundIsExplained : Type 0
BoundIsExplained = (below : Plan) (level : Level) → IsAccepted (with_level below level)
    → (faulty : List ℕ) (run : List (List State)) → IsToleratedBy (with_level below level) faulty
    → Run (with_level below level) faulty run
    → plan_bound (with_level below level) < length run
    → IsExplained level (plan_nodes below) (plan_faults below) (is_in faulty) (length run - 1)
    (inner_in below run) (plan_bound below) (plan_bound (with_level below level))
