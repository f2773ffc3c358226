-- Rounds and runs of a counter with a layer above: those of the counter, with the layer's registers
-- in each state and the layer's step added to each step.
use Rattle.std.specs.Prelude.{◌≡◌, ℕ, ◌+◌, ◌<◌, List, [], length, map, false, All, slice_index_or}
use Rattle.sync_types.specs.States.{State}
use Rattle.construction.specs.Steps.{state_of}
use Rattle.construction.specs.Runs.{is_in, heard_by}
use Rattle.counter_core.specs.Meanings.{Meaning, cut}
use Rattle.counter_core.specs.Overlays.{Layer, HasValues}
use Rattle.layer_laws.specs.Scenes.{Scene, kept_of, layer_step, new_state}

-- scene t of a run
abbrev pub scene : {Kept : Type 0} → List (Scene Kept) → (t : ℕ) → Scene Kept
scene run t = slice_index_or run t (record { states = []; kept = [] })

-- the run without the layer: each state cut to the counter's registers, and nothing kept
abbrev pub without_layer : {Kept : Type 0} → Meaning → List (Scene Kept) → List (List State)
without_layer counter run = map (λ s. map (cut counter.depth) s.states) run

-- node v steps from what it hears in the round of a number
pub record StepsAs {Kept : Type 0} (counter : Meaning) (layer : Layer Kept) (at : ℕ)
    (old : Scene Kept) (heard : List State) (v : ℕ) (new : Scene Kept) : Type 0 where
  pub state : state_of new.states v ≡ new_state counter layer at (kept_of layer old v) v heard
  pub kept : kept_of layer new v ≡ (layer_step counter layer at (kept_of layer old v) v heard).kept

-- a counter, which states its nodes have, and a layer
module _ {Kept : Type 0} (counter : Meaning) (is_state : (v : ℕ) → State → Type 0)
    (layer : Layer Kept) where
  -- A state of node v with the layer's registers after its own, each finite value of theirs below
  -- the layer's values. Every node has these registers, a spare too.
  pub record IsLayerState (v : ℕ) (state : State) : Type 0 where
    pub front : is_state v (cut counter.depth state)
    pub size : length state.registers ≡ counter.depth + layer.extra
    pub values : HasValues layer state

  -- such a state for each node
  pub record IsLayerConfiguration (config : List State) : Type 0 where
    pub size : length config ≡ counter.nodes
    pub states : (v : ℕ) → v < counter.nodes → IsLayerState v (state_of config v)

  -- what node u tells each receiver: such states of its own
  pub record IsLayerTold (u : ℕ) (told : List State) : Type 0 where
    pub size : length told ≡ counter.nodes
    pub states : All (IsLayerState u) told

  -- for each sender, what it tells each receiver
  pub record IsLayerTable (lies : List (List State)) : Type 0 where
    pub size : length lies ≡ counter.nodes
    pub rows : (u : ℕ) → u < counter.nodes → IsLayerTold u (slice_index_or lies u [])

  -- A round: each correct node steps from what it hears. States of faulty nodes, and what they
  -- keep, are free.
  pub record LayerRound (faulty : List ℕ) (at : ℕ) (old : Scene Kept) (lies : List (List State))
      (new : Scene Kept) : Type 0 where
    pub table : IsLayerTable lies
    pub steps : (v : ℕ) → v < counter.nodes → is_in faulty v ≡ false
        → StepsAs counter layer at old (heard_by counter.nodes faulty old.states lies v) v new

  -- the next scene is that of a round with some table of lies
  pub record IsNextScene (faulty : List ℕ) (at : ℕ) (old new : Scene Kept) : Type 0 where
    pub lies : List (List State)
    pub round : LayerRound faulty at old lies new

  -- A run whose first round has this number: at least one scene, with any states and anything kept,
  -- and a round between each two neighbours.
  pub record LayerRun (faulty : List ℕ) (first : ℕ) (run : List (Scene Kept)) : Type 0 where
    pub some : 0 < length run
    pub configurations : All (λ s. IsLayerConfiguration s.states) run
    pub rounds : (t : ℕ) → t + 1 < length run
        → IsNextScene faulty (first + t) (scene run t) (scene run (t + 1))

  -- Node v is correct, and steps in round t of a run from what it hears: a state of each node,
  -- which of each correct one is its true one.
  pub record NodeSteps (faulty : List ℕ) (first : ℕ) (run : List (Scene Kept)) (t v : ℕ)
      : Type 0 where
    pub heard : List State
    pub size : length heard ≡ counter.nodes
    pub states : (u : ℕ) → u < counter.nodes → IsLayerState u (state_of heard u)
    pub honest : (u : ℕ) → u < counter.nodes → is_in faulty u ≡ false
        → state_of heard u ≡ state_of (scene run t).states u
    pub steps : StepsAs counter layer (first + t) (scene run t) heard v (scene run (t + 1))
