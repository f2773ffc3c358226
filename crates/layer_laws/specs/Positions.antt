-- Where a script stands that is played round by round on a counter with a layer above.
use Rattle.std.specs.Prelude.{◌≡◌, ℕ, ◌+◌, ◌*◌, ◌<◌, ◌≤◌, List, All, Option}
use Rattle.sync_types.specs.States.{State}
use Rattle.counter_core.specs.Meanings.{Meaning}
use Rattle.counter_core.specs.Overlays.{Layer, LayerFits}
use Rattle.adversary_script.specs.Scripts.{Script, IsScript, faulty_sets}
use Rattle.adversary_script.specs.Rounds.{starts}
use Rattle.machine_runner.specs.FirstLocked.{LockTest, begun_locks, next_locks, known_locks}
use Rattle.layer_laws.specs.Counters.{Bears}
use Rattle.layer_laws.specs.Scenes.{Scene}
use Rattle.layer_laws.specs.PlayedScenes.{next_scene, scene_at}

-- A counter, its test for locked, the script that is played on it, the layer above, and at which
-- configuration the play is: the states there and what the nodes keep, and of each era the first
-- configuration so far that is locked.
pub record Position (Kept : Type 0) : Type 0 where
  pub counter : Meaning
  pub locked : LockTest
  pub script : Script
  pub layer : Layer Kept
  pub at : ℕ
  pub scene : Scene Kept
  pub locks : List (Option ℕ)

-- the play at configuration 0, if the nodes keep these things
abbrev pub begun : {Kept : Type 0} → Meaning → LockTest → Script → Layer Kept → List Kept
    → Position Kept
begun counter locked script layer kept = record {
  counter = counter;
  locked = locked;
  script = script;
  layer = layer;
  at = 0;
  scene = record { states = starts script; kept = kept };
  locks = begun_locks locked script (starts script);
}

-- the play is at configuration 0, before its first round
abbrev pub IsBegun : {Kept : Type 0} → Position Kept → Type 0
IsBegun p = p ≡ begun p.counter p.locked p.script p.layer p.scene.kept

-- the same play one round later
abbrev pub advanced : {Kept : Type 0} → Position Kept → Position Kept
advanced p =
    let scene = next_scene p.counter p.script p.layer p.at p.scene in
    record p {
      at = p.at + 1;
      scene = scene;
      locks = next_locks p.locked p.script p.locks (p.at + 1) scene.states;
    }

-- configuration t of the play, if the nodes began with these things kept
abbrev pub configuration_in : {Kept : Type 0} → (began : List Kept) → Position Kept → (t : ℕ)
    → List State
configuration_in began p t = (scene_at p.counter p.script p.layer began t).states

-- the same play at configuration t, if the nodes began with these things kept
abbrev pub played_to : {Kept : Type 0} → (began : List Kept) → Position Kept → (t : ℕ)
    → Position Kept
played_to began p t = record p {
  at = t;
  scene = scene_at p.counter p.script p.layer began t;
  locks = known_locks p.locked p.script (configuration_in began p) t;
}

-- The position is one of the play in which the nodes began with these things kept.
pub record IsPlayed {Kept : Type 0} (began : List Kept) (p : Position Kept) : Type 0 where
  pub scene : p.scene ≡ scene_at p.counter p.script p.layer began p.at
  pub locks : p.locks ≡ known_locks p.locked p.script (configuration_in began p) p.at

-- The script is one for the counter, which has few enough faulty nodes and counts by 2 at least,
-- and the layer stands over it.
pub record IsFitting {Kept : Type 0} (p : Position Kept) : Type 0 where
  pub quorum : 3 * p.counter.faults < p.counter.nodes
  pub few : p.counter.nodes ≤ 256
  pub least : 2 ≤ p.counter.modulus
  pub nodes : p.script.nodes ≡ p.counter.nodes
  pub borne : All (Bears p.counter) (faulty_sets p.script)
  pub whole : IsScript p.script
  pub over : LayerFits p.layer p.counter
  pub within : p.at ≤ p.script.rounds
