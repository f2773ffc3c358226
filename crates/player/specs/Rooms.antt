-- What rounds need beside two configurations.
use Rattle.std.specs.Prelude.{◌≡◌, ℕ, ◌<◌, ◌≤◌, List, length, slice_index, All}
use Rattle.sync_types.specs.States.{State}
use Rattle.construction.specs.Steps.{state_of}
use Rattle.state_codec.specs.Packs.{Pack}
use Rattle.state_codec.specs.Shapes.{fields_at}
use Rattle.state_codec.specs.Ranges.{InRange}
use Rattle.counter_core.specs.Overlays.{Layer, HasValues}
use Rattle.counter_core.specs.Working.{IsWorkFor}
use Rattle.adversary_script.specs.Scripts.{Script}
use Rattle.machine_runner.specs.Hearing.{HasRoom, AreHonest, heard_from}
use Rattle.rounds.specs.Rounds.{Sent}
use Rattle.player.specs.declared.stepping.Room.{Room}

-- room for what the nodes of a script tell
pub record HasLies (script : Script) (lies : List State) : Type 0 where
  pub size : length lies ≡ script.nodes
  pub deep : All (λ s. length s.registers ≡ script.shape.depth) lies

-- at the place of each faulty node stands a state of it
abbrev pub AreOwn : Script → (ids : List ℕ) → (lies : List State) → Type 0
AreOwn script ids lies = (j : ℕ) → j < length ids
    → InRange (fields_at script.shape (slice_index ids j)) (state_of lies j)

-- a faulty node tells itself its own state
abbrev pub TellsItself : (ids : List ℕ) → (v : ℕ) → (config lies : List State) → Type 0
TellsItself ids v config lies = (j : ℕ) → j < length ids → slice_index ids j ≡ v
    → state_of lies j ≡ state_of config v

-- the room was made for the script
pub record IsReady (script : Script) (room : Room) : Type 0 where
  pub noise : room.noise ≡ script.key
  pub heard : HasRoom script room.heard.items
  pub lies : HasLies script room.lies.items
  pub work : IsWorkFor script.nodes room.work
  pub out : length room.out.registers ≡ script.shape.depth

-- what stands in the list that a layer hears: the states of the correct nodes, and of the others
-- any that have the layer's values
pub record IsLaid {Kept : Type 0} (layer : Layer Kept) (script : Script) (t : ℕ)
    (config heard : List State) : Type 0 where
  pub honest : AreHonest script t config heard
  pub values : All (HasValues layer) heard

-- a round has begun: states of the liars stand in their places, and a layer's list is laid
pub record IsBegun {Kept : Type 0} (layer : Layer Kept) (script : Script) (t : ℕ) (ids : List ℕ)
    (config : List State) (room : Room) : Type 0 where
  pub ready : IsReady script room
  pub own : AreOwn script ids room.lies.items
  pub laid : 0 < layer.extra → IsLaid layer script t config room.heard.items

-- what is sent of a configuration
abbrev pub sent_of : Pack → (ids : List ℕ) → Sent
sent_of pack ids = record { depth = pack.shape.depth; faulty = ids; config = pack.current }

-- the lies of a stretch of the liars are told
abbrev pub AreTold : Script → (t : ℕ) → (ids : List ℕ) → (v : ℕ) → (config : List State)
    → (from to : ℕ) → (lies : List State) → Type 0
AreTold script t ids v config from to lies = (j : ℕ) → from ≤ j → j < to
    → state_of lies j ≡ heard_from script t v config (slice_index ids j)
