-- The laws of traces: which word the lines of correct nodes have for a locked configuration.
use Rattle.std.specs.Prelude.{◌≡◌, ⊤, ℕ, ◌+◌, ◌-◌, ◌<◌, ◌≤◌, List, [], ◌∷◌, ◌++◌, length, Bool}
use Rattle.std.specs.Prelude.{true, false, codes, decimal}
use Rattle.std.specs.List.{concat, Contains}
use Rattle.sync_types.specs.FaultSets.{is_in}
use Rattle.sync_types.specs.States.{State, register_at}
use Rattle.sync_types.specs.declared.states.Reg.{Reg}
use Rattle.construction.specs.Plans.{Level, Plan, plan_nodes}
use Rattle.construction.specs.Steps.{state_of}
use Rattle.adversary_script.specs.Scripts.{Script}
use Rattle.adversary_script.specs.Eras.{faulty_at}
use Rattle.round_runner.specs.Locks.{is_locked_in}
use Rattle.round_runner.specs.Played.{played_at}
use Rattle.machine_runner.specs.Locks as machine
use Rattle.machine_runner.specs.Played as machine_played
use Rattle.halving_plan.specs.Laws.{machine_in}
use Rattle.halving_plan.specs.Plans.{HalvingNumbers, IsAccepted}
use Rattle.trace.specs.HalvingTraceTexts as halving
use Rattle.trace.specs.TraceTexts.{trace_text}
use Rattle.trace.specs.Words.{number_or_none}

-- a part stands somewhere in a text
pub record HasPart (part text : List ℕ) : Type 0 where
  pub before : List ℕ
  pub after : List ℕ
  pub is : text ≡ before ++ (part ++ after)

-- the word of a correct node's mark, by whether the configuration is locked
abbrev pub told_mark : (marked locked : Bool) → List ℕ
told_mark marked true = codes " locked"
told_mark true false = codes " marked"
told_mark false false = codes " unmarked"

-- The beginning of a line of a correct node in configuration t, up to the word of its mark: at
-- which level or in which group it is, and its own register there.
abbrev pub told_front : (t v : ℕ) → (place : List (List ℕ)) → (own : Reg) → (locked : Bool)
    → List ℕ
told_front t v place own locked =
    concat (codes "at " ∷ decimal t ∷ codes " node " ∷ decimal v ∷ place
    ++ (codes " value " ∷ number_or_none own.a ∷ told_mark own.d locked ∷ []))

-- ---- on a boosting plan

-- a text has the line of the top level that says whether the configuration is locked; with no level
-- there is none
abbrev pub TellsLock : List Level → (faulty : List ℕ) → (config : List State) → (t v : ℕ)
    → (text : List ℕ) → Type 0
TellsLock [] faulty config t v text = ⊤
TellsLock (level ∷ below) faulty config t v text =
    HasPart (told_front t v (codes " level " ∷ decimal (length below + 1) ∷ [])
    (register_at (length below) (state_of config v)) (is_locked_in (level ∷ below) faulty config))
    text

-- In a trace of configuration t and of a node that is correct there, the node's line of the top
-- level says ` locked` exactly if the configuration is locked.
abbrev pub LocksAreTold : Type 0
LocksAreTold =
    (plan : Plan) (script : Script) (nodes : List ℕ) (first last t v : ℕ)
    → first ≤ t → t ≤ last → Contains nodes v
    → v < plan_nodes plan → is_in (faulty_at script t) v ≡ false
    → TellsLock plan.levels (faulty_at script t) (played_at plan script t) t v
    (trace_text plan script nodes first last)

-- ---- on a halving plan

-- a text has the line of the whole group that says whether the configuration is locked
abbrev pub TellsHalvingLock : HalvingNumbers → (faulty : List ℕ) → (config : List State) → (t v : ℕ)
    → (text : List ℕ) → Type 0
TellsHalvingLock plan faulty config t v text =
    HasPart (told_front t v
    (codes " whole " ∷ decimal 0 ∷ codes " " ∷ decimal (plan.nodes - 1) ∷ [])
    (register_at 0 (state_of config v)) (machine.is_locked (machine_in plan) faulty config))
    text

-- The same of the line of the whole group, if that has halves.
abbrev pub HalvingLocksAreTold : Type 0
HalvingLocksAreTold =
    (plan : HalvingNumbers) (script : Script) (nodes : List ℕ) (first last t v : ℕ)
    → IsAccepted plan → 0 < plan.faults → first ≤ t → t ≤ last → Contains nodes v
    → v < plan.nodes → is_in (faulty_at script t) v ≡ false
    → TellsHalvingLock plan (faulty_at script t)
    (machine_played.played_at (machine_in plan) script t) t v
    (halving.trace_text plan script nodes first last)
