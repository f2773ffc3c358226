-- The layer that an `Agreement` is, and what the nodes keep in it.
use Rattle.std.specs.Prelude.{ℕ, List}
use Rattle.counter_core.specs.Overlays.{Layer}
use Rattle.consensus_layer.specs.declared.agreement.Agreement.{Agreement}
use Rattle.consensus_layer.specs.Agreements.{agree_layer_of}

abbrev pub layer_seen : Agreement → Layer ℕ
layer_seen a = agree_layer_of a.nodes a.faults a.modulus a.depth a.values a.inputs.items

abbrev pub decisions_seen : Agreement → List ℕ
decisions_seen a = a.decisions.items
