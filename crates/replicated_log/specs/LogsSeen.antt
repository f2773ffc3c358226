-- The layer that a `Replica` is, and what the nodes keep in it.
use Rattle.std.specs.Prelude.{List, map}
use Rattle.counter_core.specs.Overlays.{Layer}
use Rattle.replicated_log.specs.declared.entries.Entry.{Entry}
use Rattle.replicated_log.specs.declared.replica.Replica.{Replica}
use Rattle.replicated_log.specs.Logs.{log_layer_of}
use Rattle.replicated_log.specs.Rings.{log_seen}

abbrev pub layer_seen : Replica → Layer (List Entry)
layer_seen r =
    log_layer_of r.nodes r.faults r.modulus r.depth r.values r.keep r.commands.items

abbrev pub logs_seen : Replica → List (List Entry)
logs_seen r = map log_seen r.logs.items
