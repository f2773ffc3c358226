use Rattle.promises.proofs.Printed.{promises_printed}
use Rattle.promises.proofs.printed_promises.promises_are_printed.Goals as goal

pub returns : goal.returns
returns c = promises_printed c.accepted_stabilise.ensures c.promise_is_kept.ensures
    c.check_is_exact.ensures c.records_are_checked.ensures c.holds_are_kept.ensures
    c.decisions_are_kept.ensures c.fires_are_kept.ensures c.entries_are_kept.ensures
    c.least_is_found.ensures c.texts_are_kept.ensures
