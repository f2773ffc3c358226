-- A ring of entries as a log.
use Rattle.std.specs.Prelude.{List, reverse}
use Rattle.circular_buffer.specs.Buffer.{Buffer}
use Rattle.replicated_log.specs.declared.entries.Entry.{Entry}

-- its entries, the newest first
abbrev pub log_seen : Buffer Entry → List Entry
log_seen ring = reverse ring.items
