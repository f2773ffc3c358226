-- A runner that comes to the wanted configurations.
use Rattle.std.specs.Prelude.{◌≡◌, ℕ, []}
use Rattle.counter_core.specs.declared.overlays.NoOverlay.{NoOverlay}
use Rattle.counter_core.specs.NoLayers.{no_layer}
use Rattle.round_runner.specs.Runners.{Running, IsPlaying}

-- the runner plays its script, and is at configuration 0
pub record IsToTrace (r : Running NoOverlay) : Type 0 where
  pub at : r.at ≡ 0
  pub plays : IsPlaying (λ o. no_layer) (λ o. []) [] r

-- the same runner at configuration t
pub record IsAt (start : Running NoOverlay) (t : ℕ) (r : Running NoOverlay) : Type 0 where
  pub plan : r.plan ≡ start.plan
  pub script : r.script ≡ start.script
  pub at : r.at ≡ t
  pub plays : IsPlaying (λ o. no_layer) (λ o. []) [] r
