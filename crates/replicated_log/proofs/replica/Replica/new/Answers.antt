use Rattle.std.proofs.Common.{List, [], map, ap, ◌∙◌}
use Rattle.std.specs.Prelude.{replicate}
use Rattle.replicated_log.specs.declared.entries.Entry.{Entry}
use Rattle.replicated_log.specs.Rings.{log_seen}
use Rattle.replicated_log.proofs.Replicated.{map_replicate}
use Rattle.replicated_log.proofs.replica.Replica.new.Goals as goal

abbrev none : List Entry
none = []

pub returns-clause-kept : goal.returns-clause-kept
returns-clause-kept c =
    ap (map log_seen) c.in_ok-logs.ensures
    ∙ (map_replicate log_seen _ _
    ∙ ap (λ n. replicate n none) c.nodes-nodes.ensures)
