-- What holds of the configurations that are played of a script that was read for a sound machine.
use Rattle.std.specs.Prelude.{◌≡◌, ℕ, ◌+◌, ◌<◌, ◌≤◌, ◌↔◌, List, length, true, Option, Some}
use Rattle.sync_types.specs.States.{State}
use Rattle.state_codec.specs.Shapes.{Shape, IsShape, fields_at, shape_nodes}
use Rattle.machines.specs.Machines.{Machine, Run, Round, AllShow, IsLocked}
use Rattle.machines.specs.Laws.{IsSound}
use Rattle.adversary_script.specs.Scripts.{Script, IsScript}
use Rattle.adversary_script.specs.Eras.{era_of, first_of_era, end_of_era, faulty_of_era, faulty_at}
use Rattle.adversary_script.specs.ScriptPart.{IsScriptFor}
use Rattle.machine_runner.specs.Eras as any
use Rattle.machine_runner.specs.Locks.{is_locked, first_locked, era_locked, IsFirstLocked}
use Rattle.machine_runner.specs.Played.{played_at, era_run, lies_at}

-- The shape of a machine's states: the fields of each node are those that the machine says.
pub record IsShapeOf (machine : Machine) (shape : Shape) : Type 0 where
  pub sound : IsShape shape
  pub nodes : shape_nodes shape ≡ machine.nodes
  pub depth : shape.depth ≡ machine.depth
  pub fields : (v : ℕ) → v < machine.nodes → fields_at shape v ≡ machine.fields v

-- a script that was read for a machine's nodes and faults and for its states
pub record IsReadFor (machine : Machine) (script : Script) : Type 0 where
  pub shape : IsShapeOf machine script.shape
  pub right : IsScriptFor machine.nodes machine.faults script.shape script
  pub whole : IsScript script

-- What is read for so many nodes and faults and for the machine's shape is read for the machine.
abbrev pub ReadersFit : Type 0
ReadersFit = (machine : Machine) (shape : Shape) (script : Script) → IsShapeOf machine shape
    → IsScriptFor (shape_nodes shape) machine.faults shape script → IsScript script
    → IsReadFor machine script

-- a number is known, which is at most this one
pub record IsUpTo (limit : ℕ) (known : Option ℕ) : Type 0 where
  pub number : ℕ
  pub is : known ≡ Some number
  pub most : number ≤ limit

-- Configuration t is of one era.
pub record IsOfOneEra (script : Script) (t : ℕ) : Type 0 where
  pub among : era_of script t ≤ length script.eras
  pub from : first_of_era script (era_of script t) ≤ t
  pub before : t < end_of_era script (era_of script t)
  pub only : (j : ℕ) → j ≤ length script.eras → first_of_era script j ≤ t → t < end_of_era script j
      → j ≡ era_of script t

-- What is played of era j is a run of the machine with that era's faulty nodes, and each of its
-- rounds has what they tell as its table of lies.
pub record EraIsRun (machine : Machine) (script : Script) (j : ℕ) : Type 0 where
  pub run : Run machine (faulty_of_era script j) (era_run machine script j)
  pub rounds : (t : ℕ) → first_of_era script j ≤ t → t + 1 < end_of_era script j
      → Round machine (faulty_of_era script j) (played_at machine script t)
      (lies_at script t (played_at machine script t)) (played_at machine script (t + 1))

-- From that configuration to the end of era j all nodes that are correct in it show one number,
-- which grows by one modulo C.
abbrev pub EraCountsFrom : Machine → Script → (j from : ℕ) → Type 0
EraCountsFrom machine script j from =
    any.EraCounts (AllShow machine) machine.modulus script (played_at machine script) j from

-- from that configuration to the end of era j each one is locked, and they count
abbrev pub EraStaysLocked : Machine → Script → (j from : ℕ) → Type 0
EraStaysLocked machine script j from =
    any.EraStaysLocked (AllShow machine) machine.modulus script (played_at machine script) j from
    (IsLocked machine)

-- Each configuration up to the last is of exactly one era.
abbrev pub EachIsOfOneEra : Type 0
EachIsOfOneEra = (script : Script) → IsScript script → (t : ℕ) → t ≤ script.rounds
    → IsOfOneEra script t

-- What is played of each era is a run, with the script's lies.
abbrev pub ErasAreRuns : Type 0
ErasAreRuns = (machine : Machine) (script : Script) → IsSound machine → IsReadFor machine script
    → (j : ℕ) → j ≤ length script.eras → EraIsRun machine script j

-- If an era reaches the bound, it has a first locked configuration, at the bound or before.
abbrev pub ErasLock : Type 0
ErasLock = (machine : Machine) (script : Script) → IsSound machine → IsReadFor machine script
    → (j : ℕ) → j ≤ length script.eras
    → first_of_era script j + machine.bound < end_of_era script j
    → IsUpTo (first_of_era script j + machine.bound)
    (first_locked (era_locked machine script (played_at machine script) j) script.rounds)

-- The outputs count from the bound on, in each era to its end.
abbrev pub ErasCount : Type 0
ErasCount = (machine : Machine) (script : Script) → IsSound machine → IsReadFor machine script
    → (j : ℕ) → j ≤ length script.eras
    → EraCountsFrom machine script j (first_of_era script j + machine.bound)

-- What is locked stays locked and counts, to the end of its era, before the bound too.
abbrev pub ErasStayLocked : Type 0
ErasStayLocked = (machine : Machine) (script : Script) → IsSound machine → IsReadFor machine script
    → (j : ℕ) → j ≤ length script.eras
    → (t : ℕ) → first_of_era script j ≤ t → t < end_of_era script j
    → IsLocked machine (faulty_at script t) (played_at machine script t)
    → EraStaysLocked machine script j t

-- The test for locked passes just the locked configurations.
abbrev pub LockTestIsExact : Type 0
LockTestIsExact = (machine : Machine) (faulty : List ℕ) (config : List State)
    → (is_locked machine faulty config ≡ true) ↔ IsLocked machine faulty config

-- The first one of an era that passes the test is its first locked one.
abbrev pub FirstsAreLocked : Type 0
FirstsAreLocked = (machine : Machine) (script : Script) (config_at : ℕ → List State)
    → IsScript script → (j at : ℕ) → j ≤ length script.eras → at ≤ script.rounds
    → IsFirstLocked machine script config_at j at
    (first_locked (era_locked machine script config_at j) at)
