-- What holds of the scenes that are played of a script that was read for a sound machine with a
-- layer above.
use Rattle.std.specs.Prelude.{ℕ, ◌+◌, ◌<◌, ◌≤◌, ◌↔◌, List, length}
use Rattle.sync_types.specs.States.{State}
use Rattle.state_codec.specs.Shapes.{Shape, fields_at, shape_nodes}
use Rattle.state_codec.specs.Ranges.{InRange}
use Rattle.counter_core.specs.Overlays.{Layer, LayerFits, KeepsRange}
use Rattle.machines.specs.Machines.{Machine, IsState, Run, AllShow, IsLocked}
use Rattle.machines.specs.Laws.{IsSound}
use Rattle.adversary_script.specs.Scripts.{Script, IsScript}
use Rattle.adversary_script.specs.Eras.{first_of_era, end_of_era, faulty_of_era, faulty_at}
use Rattle.adversary_script.specs.Rounds.{lies_at}
use Rattle.adversary_script.specs.ScriptPart.{IsScriptFor}
use Rattle.machine_runner.specs.Eras as any
use Rattle.machine_runner.specs.Eras.{of_era}
use Rattle.machine_runner.specs.Laws.{IsUpTo}
use Rattle.machine_runner.specs.Locks.{first_locked, era_locked}
use Rattle.layer_laws.specs.Counters.{IsSettling}
use Rattle.layer_laws.specs.CounterLayers.{IsLayerState, LayerRun, LayerRound, without_layer}
use Rattle.layer_laws.specs.CounterPlayed.{IsKeptFor}
use Rattle.layer_laws.specs.Scenes.{Scene}
use Rattle.layer_laws.specs.PlayedScenes.{scene_at}
use Rattle.player.specs.Counters.{machine_counter}
use Rattle.player.specs.ReadOver.{IsShapeOver, IsReadWithLayer}

-- What is read for so many nodes and faults and for the shape of a machine with a layer is read for
-- both.
abbrev pub ReadersFit : {Kept : Type 0} → Layer Kept → Type 0
ReadersFit layer = (machine : Machine) (shape : Shape) (script : Script)
    → IsShapeOver machine layer shape
    → IsScriptFor (shape_nodes shape) machine.faults shape script → IsScript script
    → LayerFits layer (machine_counter machine) → IsReadWithLayer machine layer script

-- A state of the fields of a script's node is one of the machine's node with the layer's registers
-- after its own, and conversely.
abbrev pub StatesFit : {Kept : Type 0} → Layer Kept → Type 0
StatesFit layer = (machine : Machine) (script : Script) → IsSound machine
    → IsReadWithLayer machine layer script → (v : ℕ) → v < machine.nodes → (state : State)
    → InRange (fields_at script.shape v) state
    ↔ IsLayerState (machine_counter machine) (IsState machine) layer v state

-- The counter of a sound machine is settling.
abbrev pub MachinesSettle : Type 0
MachinesSettle = (machine : Machine) → IsSound machine
    → IsSettling (machine_counter machine) (IsState machine)

module _ {Kept : Type 0} (machine : Machine) (script : Script) (layer : Layer Kept)
    (began : List Kept) where
  -- scene t of what is played, if the nodes began with these things kept
  abbrev pub played_scene : (t : ℕ) → Scene Kept
  played_scene t = scene_at (machine_counter machine) script layer began t

  -- configuration t of it
  abbrev pub played_states : (t : ℕ) → List State
  played_states t = (played_scene t).states

  -- the scenes of era j
  abbrev pub era_scenes : (j : ℕ) → List (Scene Kept)
  era_scenes j = of_era script played_scene j

  -- What is played of era j is a run with the layer, with that era's faulty nodes and the era's
  -- first round as its first, and each of its rounds has what these tell as its table of lies.
  -- Without the layer it is a run of the machine.
  pub record EraIsLayerRun (j : ℕ) : Type 0 where
    pub run : LayerRun (machine_counter machine) (IsState machine) layer (faulty_of_era script j)
        (first_of_era script j) (era_scenes j)
    pub rounds : (t : ℕ) → first_of_era script j ≤ t → t + 1 < end_of_era script j
        → LayerRound (machine_counter machine) (IsState machine) layer (faulty_of_era script j) t
        (played_scene t) (lies_at script t (played_states t)) (played_scene (t + 1))
    pub bare : Run machine (faulty_of_era script j)
        (without_layer (machine_counter machine) (era_scenes j))

  -- From that configuration to the end of era j all nodes that are correct in it show one number,
  -- which grows by one modulo C.
  abbrev pub EraCountsFrom : (j from : ℕ) → Type 0
  EraCountsFrom j from =
      any.EraCounts (AllShow machine) machine.modulus script played_states j from

  -- from that configuration to the end of era j each one is locked, and they count
  abbrev pub EraStaysLocked : (j from : ℕ) → Type 0
  EraStaysLocked j from =
      any.EraStaysLocked (AllShow machine) machine.modulus script played_states j from
      (IsLocked machine)

-- A sound machine, a layer whose step keeps values in range, and a script that was read for both;
-- something is kept for each node at first.
pub record IsPlayable {Kept : Type 0} (machine : Machine) (script : Script) (layer : Layer Kept)
    (began : List Kept) : Type 0 where
  pub sound : IsSound machine
  pub keeps : KeepsRange layer
  pub read : IsReadWithLayer machine layer script
  pub enough : IsKeptFor machine.nodes began

-- What is played of each era is a run with the layer, with the script's lies.
abbrev pub ErasAreLayerRuns : {Kept : Type 0} → Layer Kept → Type 0
ErasAreLayerRuns layer = (machine : Machine) (script : Script) (began : List _)
    → IsPlayable machine script layer began → (j : ℕ) → j ≤ length script.eras
    → EraIsLayerRun machine script layer began j

-- The outputs count from the bound on, in each era to its end.
abbrev pub ErasCount : {Kept : Type 0} → Layer Kept → Type 0
ErasCount layer = (machine : Machine) (script : Script) (began : List _)
    → IsPlayable machine script layer began → (j : ℕ) → j ≤ length script.eras
    → EraCountsFrom machine script layer began j (first_of_era script j + machine.bound)

-- If an era reaches the bound, and the play too, it has a first locked configuration, at the bound
-- or before.
abbrev pub ErasLock : {Kept : Type 0} → Layer Kept → Type 0
ErasLock layer = (machine : Machine) (script : Script) (began : List _)
    → IsPlayable machine script layer began → (j : ℕ) → j ≤ length script.eras
    → first_of_era script j + machine.bound < end_of_era script j
    → (at : ℕ) → first_of_era script j + machine.bound ≤ at → at ≤ script.rounds
    → IsUpTo (first_of_era script j + machine.bound)
    (first_locked (era_locked machine script (played_states machine script layer began) j) at)

-- What is locked stays locked and counts, to the end of its era, before the bound too.
abbrev pub ErasStayLocked : {Kept : Type 0} → Layer Kept → Type 0
ErasStayLocked layer = (machine : Machine) (script : Script) (began : List _)
    → IsPlayable machine script layer began → (j : ℕ) → j ≤ length script.eras
    → (t : ℕ) → first_of_era script j ≤ t → t < end_of_era script j
    → IsLocked machine (faulty_at script t) (played_states machine script layer began t)
    → EraStaysLocked machine script layer began j t
