use Rattle.halvinglab.proofs.NodeEnds.{kept_so, unmet_so}
use Rattle.halvinglab.proofs.node_word.node.Goals as goal

pub returns-in-Ok-clause-does : goal.returns-in-Ok-clause-does
returns-in-Ok-clause-does g c = record { count = c.in-Ok.field-0; did = c.in-Ok.ensures.does }

pub returns-in-Err-clause-does : goal.returns-in-Err-clause-does
returns-in-Err-clause-does g c =
    record { ended = c.in-Err.error; is = c.error_of.ensures; did = c.in-Err.ensures.does }

pub returns-in-Err-clause-untouched : goal.returns-in-Err-clause-untouched
returns-in-Err-clause-untouched g c =
    rw c.error_of.ensures (kept_so _ _ _ c.in-Err.ensures.untouched)

pub returns-in-Err-clause-unmet : goal.returns-in-Err-clause-unmet
returns-in-Err-clause-unmet g c =
    rw c.error_of.ensures (unmet_so (Unit {0}) _ _ _ c.in-Err.ensures.unmet)
