-- What a node hears in a round of a script is what a counter and a layer take.
use Rattle.std.proofs.Common.{◌≡◌, ℕ, ◌+◌, ◌<◌, List, length, All, ◌∙◌, arith}
use Rattle.sync_types.specs.States.{State}
use Rattle.state_codec.specs.Shapes.{IsShape}
use Rattle.counter_core.specs.Meanings.{Meaning}
use Rattle.counter_core.specs.Overlays.{Layer, HasValues}
use Rattle.adversary_script.specs.Scripts.{Script, IsScript}
use Rattle.adversary_script.specs.Lies.{AreStates}
use Rattle.adversary_script.proofs.LiesInRange.{depth_of_node}
use Rattle.machine_runner.proofs.HeardAt.{heard_long, heard_range}
use Rattle.machine_runner.proofs.Places.{all_places}
use Rattle.round_runner.specs.Fits.{ShapeFits}
use Rattle.round_runner.specs.Played.{heard_at}

module _ (script : Script) (t : ℕ) (config : List State) (v : ℕ) (whole : IsScript script)
    (sound : IsShape script.shape) (node : v < script.nodes)
    (range : AreStates script.nodes script.shape config) {Kept : Type 0} (counter : Meaning)
    (in_range : State → Type 0) (layer : Layer Kept)
    (fits : ShapeFits script.shape counter in_range layer)
    (nodes : counter.nodes ≡ script.nodes) where
  long : length (heard_at script t config v) ≡ script.nodes
  long = heard_long script t config v

  ranges : AreStates script.nodes script.shape (heard_at script t config v)
  ranges = heard_range script t config v node range whole sound

  pub heard_counts : All in_range (heard_at script t config v)
  heard_counts = all_places in_range (heard_at script t config v) (λ u lt.
      fits.counts u (omega (arith, lt, long, nodes)) _ (ranges u (omega (arith, lt, long))))

  pub heard_deep : All (λ s. length s.registers ≡ counter.depth + layer.extra)
      (heard_at script t config v)
  heard_deep = all_places (λ s. length s.registers ≡ counter.depth + layer.extra)
      (heard_at script t config v) (λ u lt.
      depth_of_node script.shape u _ (ranges u (omega (arith, lt, long))) ∙ fits.depth)

  pub heard_values : All (HasValues layer) (heard_at script t config v)
  heard_values = all_places (HasValues layer) (heard_at script t config v) (λ u lt.
      fits.values u (omega (arith, lt, long, nodes)) _ (ranges u (omega (arith, lt, long))))
