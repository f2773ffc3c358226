use Rattle.std.proofs.Common.{[], sym, ap, ◌∙◌}
use Rattle.counter_core.specs.NoLayers.{no_layer}
use Rattle.edge_io.proofs.Writing.{writes_then, writes_last, writes_more, writes_is}
use Rattle.machine_runner.specs.RunTexts.{bound_line}
use Rattle.run_lines.proofs.Played.{locks_after}
use Rattle.run_lines.proofs.shortened.put_all_lines.Goals as goal

pub put_locks-requires : goal.put_locks-requires
put_locks-requires g c =
    c.put_lines.ensures.knows (sym c.has_failed.ensures ∙ c.if-has_failed.false)

pub returns-then-has_failed : goal.returns-then-has_failed
returns-then-has_failed g c =
    writes_then (writes_is (ap bound_line c.bound.ensures) c.put_bound.ensures)
    (writes_more _ (sym c.has_failed.ensures ∙ c.if-has_failed.true) c.put_lines.ensures.lines)

pub returns : goal.returns
returns g c =
    let lines = c.put_lines.ensures in
    let played = lines.played (sym c.has_failed.ensures ∙ c.if-has_failed.false) in
    writes_then (writes_is (ap bound_line c.bound.ensures) c.put_bound.ensures)
    (writes_then lines.lines (writes_last
    (writes_is (locks_after (λ o. no_layer) (λ o. []) (g.L.Lines.wording c.args.lines.now)
    c.args.runner.now _ _ played) (c.put_locks.ensures [] played.plays))))
