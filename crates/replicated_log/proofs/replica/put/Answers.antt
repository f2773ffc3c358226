use Rattle.std.proofs.Common.{◌∷◌, [], List, map, set, get_or, take, sym, ap, ap₂, ◌∙◌}
use Rattle.std.specs.Prelude.{ℕ}
use Rattle.std.proofs.lemmas.List.{map-set, get_or-map}
use Rattle.replicated_log.specs.declared.entries.Entry.{Entry}
use Rattle.replicated_log.specs.Rings.{log_seen}
use Rattle.replicated_log.proofs.Newest.{newest_first}
use Rattle.replicated_log.proofs.replica.put.Goals as goal

pub returns-clause-logs : goal.returns-clause-logs
returns-clause-logs c =
    let logs = c.args.logs.now in
    let r = c.index-logs-node.result in
    let at = get_or logs c.args.node r in
    map-set log_seen logs c.args.node c.push_back.new.self
    ∙ ap (set (map log_seen logs) c.args.node)
    (ap log_seen c.push_back.ensures.items ∙ (newest_first at.capacity at.items c.args.entry
    ∙ ap₂ (λ (k : ℕ) (l : List Entry). take k (c.args.entry ∷ l))
    (c.requires.keep c.args.node r c.requires.node)
    (sym (get_or-map log_seen logs c.args.node r [] c.requires.node))))
