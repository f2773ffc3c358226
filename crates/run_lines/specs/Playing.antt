-- A runner that plays a script with a layer, from the first configuration to the last.
use Rattle.std.specs.Prelude.{◌≡◌, ℕ, List}
use Rattle.counter_core.specs.Overlays.{Layer}
use Rattle.round_runner.specs.Runners.{Running, IsPlaying}
use Rattle.run_lines.specs.PlayedTexts.{Wording, played_text}

module _ {O Kept : Type 0} (layer_of : O → Layer Kept) (kept_of : O → List Kept) where
  -- the runner plays its script, and is at configuration 0
  pub record IsToPlay (r : Running O) : Type 0 where
    pub at : r.at ≡ 0
    pub plays : IsPlaying layer_of kept_of (kept_of r.overlay) r

  -- the same runner at configuration c
  pub record HasPlayed (start : Running O) (c : ℕ) (r : Running O) : Type 0 where
    pub plan : r.plan ≡ start.plan
    pub script : r.script ≡ start.script
    pub layer : layer_of r.overlay ≡ layer_of start.overlay
    pub at : r.at ≡ c
    pub plays : IsPlaying layer_of kept_of (kept_of start.overlay) r

  -- what is written of its run
  abbrev pub text_of : Wording Kept → Running O → List ℕ
  text_of wording r =
      played_text r.plan r.script (layer_of r.overlay) (kept_of r.overlay) wording
