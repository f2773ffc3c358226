use Rattle.workbench.proofs.NodeEnds.{did_so, unmet_so, untouched_so}
use Rattle.workbench.proofs.node_word.node.Goals as goal

pub returns-clause-does : goal.returns-clause-does
returns-clause-does g c =
    rw c.node_status.ensures (did_so _ _ _ _ _ _ _ c.serve_node.ensures.does)

pub returns-clause-unmet : goal.returns-clause-unmet
returns-clause-unmet g c = rw c.node_status.ensures (unmet_so _ _ _ c.serve_node.ensures.unmet)

pub returns-clause-untouched : goal.returns-clause-untouched
returns-clause-untouched g c =
    rw c.node_status.ensures (untouched_so _ _ _ c.serve_node.ensures.untouched)
