-- The layer that a `Firing` is, and what the nodes keep in it.
use Rattle.std.specs.Prelude.{List, map}
use Rattle.counter_core.specs.Overlays.{Layer}
use Rattle.firing.specs.declared.fires.Fire.{Fire}
use Rattle.firing.specs.declared.firing.Firing.{Firing}
use Rattle.firing.specs.Firings.{fire_layer_of}

abbrev pub layer_seen : Firing → Layer Fire
layer_seen f = fire_layer_of f.nodes f.faults f.modulus f.depth f.requests

abbrev pub fires_seen : Firing → List Fire
fires_seen f = map (λ b. record { round = f.round; fired = b }) f.fired.items
