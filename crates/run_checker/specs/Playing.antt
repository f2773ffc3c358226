-- A runner whose run is recorded while it plays its script.
use Rattle.std.specs.Prelude.{◌≡◌, ℕ, ◌+◌, ◌<◌, ◌≤◌, [], true, Some}
use Rattle.sync_types.specs.FaultSets.{is_in}
use Rattle.construction.specs.Plans.{plan_nodes}
use Rattle.state_codec.specs.Shapes.{shape_of, shape_nodes}
use Rattle.counter_core.specs.declared.overlays.NoOverlay.{NoOverlay}
use Rattle.counter_core.specs.NoLayers.{no_layer}
use Rattle.adversary_script.specs.Scripts.{Script, IsScript, most_rounds}
use Rattle.adversary_script.specs.Eras.{faulty_at}
use Rattle.machine_runner.specs.Beginnings.{BeginsAt}
use Rattle.round_runner.specs.Played.{played_at}
use Rattle.round_runner.specs.Runners.{Running, IsPlaying}

-- it plays its script
abbrev pub Plays : Running NoOverlay → Type 0
Plays r = IsPlaying (λ o. no_layer) (λ o. []) [] r

-- it plays a script that was read for its plan
pub record IsToRecord (r : Running NoOverlay) : Type 0 where
  pub plays : Plays r
  pub script : IsScript r.script
  pub nodes : r.script.nodes ≡ plan_nodes r.plan
  pub shape : r.script.shape ≡ shape_of r.plan

-- a node of its plan, which has digits
pub record HasNode (r : Running NoOverlay) (v : ℕ) : Type 0 where
  pub node : v < plan_nodes r.plan
  pub sized : shape_nodes r.script.shape ≡ plan_nodes r.plan

-- a node that is faulty in the coming round
pub record HasLiar (r : Running NoOverlay) (u : ℕ) : Type 0 where
  pub round : r.at < r.script.rounds
  pub sender : is_in (faulty_at r.script r.at) u ≡ true
  pub has : HasNode r u

-- a further era of a script begins with configuration t + 1
pub record Begins (s : Script) (t j : ℕ) : Type 0 where
  pub script : IsScript s
  pub begins : BeginsAt s (t + 1) (Some j)
  pub small : t < most_rounds

-- it plays the same script of the same plan, and is at a configuration of it
pub record StillPlays (old new : Running NoOverlay) : Type 0 where
  pub plan : new.plan ≡ old.plan
  pub script : new.script ≡ old.script
  pub within : new.at ≤ old.script.rounds
  pub plays : Plays new

-- it has played the script to its end: its configuration is the last one
pub record HasPlayedAll (old new : Running NoOverlay) : Type 0 where
  pub still : StillPlays old new
  pub at : new.at ≡ old.script.rounds
  pub states : new.states ≡ played_at old.plan old.script old.script.rounds

-- it has played one more round
pub record HasPlayedOne (old new : Running NoOverlay) : Type 0 where
  pub plan : new.plan ≡ old.plan
  pub script : new.script ≡ old.script
  pub at : new.at ≡ old.at + 1
  pub plays : Plays new
